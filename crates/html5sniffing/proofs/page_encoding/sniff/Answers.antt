use Rattle.std.proofs.Common.{◌≡◌, IfOk, sym, ap, ◌∙◌, subst}
use Rattle.std.specs.Prelude.{unwrap_or}
use Rattle.std.specs.Option.{option_or}
use Rattle.html5sniffing.specs.PageEncoding.{encoding_of_page, hinted}
use Rattle.html5sniffing.proofs.page_encoding.sniff.Goals as goal

pub returns-in-Some : goal.returns-in-Some
unfolding encoding_of_page
returns-in-Some g c =
    ap (λ m. unwrap_or m (hinted c.args.references.now c.args.fallback c.args.front.now))
    (sym c.in-Some.is ∙ c.or.ensures ∙ ap (λ m. option_or m c.args.said) c.marked.ensures)

pub returns-in-None : goal.returns-in-None
unfolding encoding_of_page
returns-in-None g c =
    let default = hinted c.args.references.now c.args.fallback c.args.front.now in
    subst (λ x. IfOk c.hinted.result (λ encoding. encoding ≡ x))
    (ap (λ m. unwrap_or m default) (sym c.in-None.is ∙ c.or.ensures ∙ ap (λ m. option_or m c.args.said) c.marked.ensures))
    c.hinted.ensures
