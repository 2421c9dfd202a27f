use Rattle.std.proofs.Common.{length, map}
use Rattle.html5tree.specs.ElementNames.{name_of}
use Rattle.html5tree.specs.Normal.{end_tags}
use Rattle.html5nested.proofs.Added.{IsLeft}
use Rattle.html5nested.proofs.pieces.write_end_tags.Given as goal

abbrev pub invariant-loop-name : goal.invariant-loop-name
invariant-loop-name g l = IsLeft l.initial.page l.page (end_tags (map name_of l.names)) (end_tags (map name_of l.left))

abbrev pub decreases-loop-name : goal.decreases-loop-name
decreases-loop-name g l = length l.left
