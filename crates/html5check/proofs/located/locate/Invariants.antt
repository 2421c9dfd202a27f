use Rattle.std.proofs.Common.{◌≡◌, ◌++◌, map, drop}
use Rattle.std.specs.Str.{chars}
use Rattle.html5check.specs.Faults.{finding_by}
use Rattle.html5check.specs.Located.{located, located_by}
use Rattle.html5check.proofs.located.locate.Given as goal

abbrev pub invariant-loop-finding : goal.invariant-loop-finding
invariant-loop-finding l =
    (map located_by l.found.items ++ map (located l.text) (map finding_by (drop l.finding-index l.findings)) ≡ map (located l.text) (map finding_by l.findings))
    × (l.positions ≡ chars l.text)
