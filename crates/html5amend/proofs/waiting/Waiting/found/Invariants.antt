-- None of those within this one has the name, and none of them is dropped.
use Rattle.std.proofs.Common.{◌≡◌, drop, map}
use Rattle.html5amend.specs.Open.{found_from}
use Rattle.html5amend.specs.Views.{open_by}
use Rattle.html5amend.proofs.waiting.Waiting.found.Given as goal

abbrev pub invariant-loop-place : goal.invariant-loop-place
invariant-loop-place g l =
    found_from 0 l.name (map open_by l.self-inside.elements.items) ≡ found_from l.place l.name (map open_by (drop l.place l.self-inside.elements.items))
