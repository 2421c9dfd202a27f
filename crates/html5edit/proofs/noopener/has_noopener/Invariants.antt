-- What is left has the word where all of it does.
use Rattle.std.proofs.Common.{◌≡◌, drop, true}
use Rattle.html5edit.specs.Changes.{has_noopener}
use Rattle.html5edit.proofs.noopener.has_noopener.Given as goal

abbrev pub invariant-loop-index : goal.invariant-loop-index
invariant-loop-index l = has_noopener l.begins (drop l.index l.rel) ≡ has_noopener true l.rel
