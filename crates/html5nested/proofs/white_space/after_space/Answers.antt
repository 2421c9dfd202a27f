use Rattle.html5nested.proofs.Spaces.{after-trimmed}
use Rattle.html5nested.proofs.white_space.after_space.Goals as goal

pub returns : goal.returns
returns c = after-trimmed c.args.text.now c.trim_ascii_start.result.now c.trim_ascii_start.ensures.value
