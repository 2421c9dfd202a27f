use Rattle.std.proofs.Common.{lit<, sym}
use Rattle.html5table.proofs.Entries.{parts_round-split}
use Rattle.html5edit.proofs.rule.round_equals_sign.Goals as goal

pub returns : goal.returns
returns c = sym (parts_round-split 61 c.args.word.now c.split_once.result (lit< tt) c.split_once.ensures.byte)
