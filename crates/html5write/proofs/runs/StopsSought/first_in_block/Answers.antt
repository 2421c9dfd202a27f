use Rattle.html5write.proofs.PlainRuns.{StopsWithin-lowest}
use Rattle.html5write.proofs.runs.StopsSought.first_in_block.Goals as goal

pub returns-clause-within : goal.returns-clause-within
returns-clause-within c = (StopsWithin-lowest c.args.bytes.now c.args.at c.lowest_bit.result c.requires c.type_inv.bytes c.lowest_bit.ensures).within

pub returns-clause-none_before : goal.returns-clause-none_before
returns-clause-none_before c = (StopsWithin-lowest c.args.bytes.now c.args.at c.lowest_bit.result c.requires c.type_inv.bytes c.lowest_bit.ensures).none

pub returns-clause-stops : goal.returns-clause-stops
returns-clause-stops c = (StopsWithin-lowest c.args.bytes.now c.args.at c.lowest_bit.result c.requires c.type_inv.bytes c.lowest_bit.ensures).stops
