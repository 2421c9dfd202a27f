use Rattle.std.proofs.Common.{ap, ◌∙◌}
use Rattle.html5sniffing.specs.PageEncoding.{encoding_by}
use Rattle.html5sniffing.proofs.FrontLemmas.{by-read, enough}
use Rattle.html5sniffing.proofs.opening.open_page.Goals as goal

pub returns-in-Ok-clause-encoding : goal.returns-in-Ok-clause-encoding
returns-in-Ok-clause-encoding g c =
    let read = c.in_ok-is_ended in
    by-read c.args.references.now c.args.said c.args.fallback _ (g.R.Source.remaining c.read_front.new.source) c.read_front.new.front.bytes c.in-Ok.encoding
    read.ensures.given (enough _ _ _ _ _ read.is_ended read.ensures.end read.ensures.whole)
    (c.in-Ok.ensures ∙ ap (encoding_by c.args.references.now c.args.said c.args.fallback) c.bytes.ensures)
