-- The options from the last one on that was taken say the changes.
use Rattle.std.proofs.Common.{◌≡◌, ◌-◌, Some, drop, map}
use Rattle.html5edit.specs.Asked.{changes_said}
use Rattle.html5programs.specs.Words.{given_of}
use Rattle.html5edit.proofs.changes.Changes.of_words.Given as goal

abbrev pub invariant-loop-later : goal.invariant-loop-later
invariant-loop-later l = changes_said (drop (l.count - l.later) (map given_of l.words.given.items)) ≡ Some l.changes
