-- None before this one is it.
use Rattle.std.proofs.Common.{◌≡◌, drop, map, string_bytes}
use Rattle.html5edit.specs.Changes.{is_among}
use Rattle.html5edit.proofs.changes.is_among.Given as goal

abbrev pub invariant-loop-other : goal.invariant-loop-other
invariant-loop-other l = is_among l.name (map string_bytes l.names) ≡ is_among l.name (map string_bytes (drop l.other-index l.names))
