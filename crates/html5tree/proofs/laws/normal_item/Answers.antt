use Rattle.html5tree.proofs.Bounds.{item-cost}
use Rattle.html5tree.proofs.Normalising.{item-after, item-fits, item-unchanged, item-within, none-ready, ready-after, unknown-end, unknown-start}
use Rattle.html5tree.proofs.Placing.{not-written, written-last}
use Rattle.html5tree.proofs.laws.normal_item.Goals as goal

pub returns-clause-first : goal.returns-clause-first
returns-clause-first c = none-ready

pub returns-clause-ready : goal.returns-clause-ready
returns-clause-ready c = ready-after

pub returns-clause-fits : goal.returns-clause-fits
returns-clause-fits c = item-fits

pub returns-clause-within : goal.returns-clause-within
returns-clause-within c = item-within

pub returns-clause-after : goal.returns-clause-after
returns-clause-after c = item-after

pub returns-clause-unchanged : goal.returns-clause-unchanged
returns-clause-unchanged c = item-unchanged

pub returns-clause-unknown_start : goal.returns-clause-unknown_start
returns-clause-unknown_start c = unknown-start

pub returns-clause-unknown_end : goal.returns-clause-unknown_end
returns-clause-unknown_end c = unknown-end

pub returns-clause-bound : goal.returns-clause-bound
returns-clause-bound c = item-cost

pub returns-clause-no_place : goal.returns-clause-no_place
returns-clause-no_place c = not-written

pub returns-clause-place : goal.returns-clause-place
returns-clause-place c = written-last
