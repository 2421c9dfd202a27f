use Rattle.std.proofs.Common.{arith}
use Rattle.markup5ever.proofs.LaneLemmas.{HasLanes-digits}
use Rattle.markup5ever.proofs.small_char_set.eighths.Goals as goal

pub returns : goal.returns
returns c = HasLanes-digits c.args.bits _ (omega arith)
