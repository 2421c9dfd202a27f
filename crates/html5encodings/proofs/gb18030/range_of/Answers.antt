use Rattle.std.proofs.Common.{ap, ◌∙◌}
use Rattle.html5encodings.specs.Gb18030.{last_range}
use Rattle.html5encodings.proofs.Tables.{GB18030_RANGES-is}
use Rattle.html5encodings.proofs.gb18030.range_of.Goals as goal

pub returns : goal.returns
returns c = c.last_range.ensures ∙ ap (λ t. last_range t c.args.pointer (0, 0x80)) GB18030_RANGES-is
