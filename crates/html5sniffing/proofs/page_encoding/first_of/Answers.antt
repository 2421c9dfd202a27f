use Rattle.std.proofs.Common.{take, ap, ◌∙◌}
use Rattle.html5sniffing.proofs.FrontLemmas.{take-min}
use Rattle.html5sniffing.proofs.page_encoding.first_of.Goals as goal

pub returns : goal.returns
returns c = ap (λ n. take n c.args.bytes.now) c.min.ensures ∙ take-min 1024 c.args.bytes.now
