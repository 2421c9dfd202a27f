use Rattle.std.proofs.Common.{◌≡◌, ◌++◌, take}
use Rattle.html5cleaner.specs.Balance.{end_tags}
use Rattle.html5cleaner.specs.Open.{names_of}
use Rattle.html5cleaner.proofs.balance.write_end_tags.Given as goal

-- those that are still wanted are the innermost ones of what is left
abbrev pub invariant-loop-wanted : goal.invariant-loop-wanted
invariant-loop-wanted g l = l.page ++ end_tags (take l.wanted (names_of l.left)) ≡ l.initial.page ++ end_tags (take l.count (names_of l.names))

abbrev pub decreases-loop-wanted : goal.decreases-loop-wanted
decreases-loop-wanted g l = l.wanted
