use Rattle.std.proofs.Common.{◌≡◌, ◌++◌, map, drop}
use Rattle.html5check.specs.Located.{located_by}
use Rattle.html5json.specs.Findings.{results_of}
use Rattle.html5json.proofs.sarif.results_of.Given as goal

abbrev pub invariant-loop-located : goal.invariant-loop-located
invariant-loop-located l =
    l.bytes.items ++ results_of l.has_found l.file (map located_by (drop l.located-index l.found))
    ≡ results_of l.initial.has_found l.file (map located_by l.found)
