use Rattle.std.proofs.Common.{◌≡◌, map, drop}
use Rattle.html5check.specs.Checking.{checked_all, nothing_checked}
use Rattle.html5check.specs.Seen.{seen_by}
use Rattle.html5check.proofs.findings.found_by.Given as goal

abbrev pub invariant-loop-seen : goal.invariant-loop-seen
invariant-loop-seen l = checked_all l.checker (map seen_by (drop l.seen-index l.tokens)) ≡ checked_all nothing_checked (map seen_by l.tokens)
