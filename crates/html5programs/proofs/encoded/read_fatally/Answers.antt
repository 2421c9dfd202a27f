use Rattle.std.proofs.Common.{Some, None, ap, sym, ◌∙◌}
use Rattle.std.proofs.lemmas.Result.{on_ok_weaker}
use Rattle.html5sniffing.specs.Fronts.{still_given}
use Rattle.html5sniffing.specs.PageEncoding.{encoding_by}
use Rattle.html5programs.proofs.TextsRead.{given-again, on_ok-of, reads-fatally, text-opened_fatally}
use Rattle.html5programs.proofs.encoded.read_fatally.Goals as goal

pub returns : goal.returns
returns g c =
    let known = g.S.Source.remaining c.args.source.now in
    let mid = g.S.Source.remaining c.open_page.new.source in
    let front = c.in-Ok.opening.front.bytes in
    let fronted = c.new-fronted.result in
    let left = g.S.Source.remaining fronted.inner.source.now in
    let again = given-again fronted.ended fronted.waiting front left mid (ap (λ l. g.S.Source.remaining l.source.now) c.new-fronted.ensures.inner) c.new-fronted.ensures.waiting
    (λ ended. c.in-Ok.ensures.end (sym c.new-fronted.ensures.ended ∙ ended)) in
    let text_is = text-opened_fatally known mid (still_given fronted left) front c.in-Ok.opening.encoding
    (encoding_by c.args.references.now (Some c.args.said) None) _ c.in-Ok.ensures.given c.in-Ok.ensures.encoding again c.fatal-text.ensures.text in
    on_ok-of c.read_page-filter.result.1 c.read_of_text.result _ c.read_of_text.ensures (on_ok_weaker c.read_page-filter.result.1 (reads-fatally g.F.Filter.means c.args.references.now c.args.said known _ _ _ _ _ text_is) c.read_page-filter.ensures.finishes)
