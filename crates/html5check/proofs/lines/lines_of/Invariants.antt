use Rattle.std.proofs.Common.{◌≡◌, ◌++◌, map, drop}
use Rattle.std.specs.List.{flat_map}
use Rattle.html5check.specs.Lines.{line_of}
use Rattle.html5check.specs.Located.{located_by}
use Rattle.html5check.proofs.lines.lines_of.Given as goal

abbrev pub invariant-loop-located : goal.invariant-loop-located
invariant-loop-located l =
    l.lines.items ++ flat_map (line_of l.file) (map located_by (drop l.located-index l.found)) ≡ flat_map (line_of l.file) (map located_by l.found)
