use Rattle.std.proofs.Common.{◌≡◌, ◌++◌, map, drop}
use Rattle.html5check.specs.Located.{located_by}
use Rattle.html5json.specs.Findings.{finding_lines}
use Rattle.html5json.proofs.findings.finding_lines.Given as goal

abbrev pub invariant-loop-located : goal.invariant-loop-located
invariant-loop-located l =
    l.lines.items ++ finding_lines l.file (map located_by (drop l.located-index l.found)) ≡ finding_lines l.file (map located_by l.found)
