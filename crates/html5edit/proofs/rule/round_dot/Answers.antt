use Rattle.std.proofs.Common.{lit<, sym}
use Rattle.html5table.proofs.Entries.{parts_round-split}
use Rattle.html5edit.proofs.rule.round_dot.Goals as goal

pub returns : goal.returns
returns c = sym (parts_round-split 46 c.args.place.now c.split_once.result (lit< tt) c.split_once.ensures.byte)
