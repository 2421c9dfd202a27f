use Rattle.std.proofs.Common.{◌≡◌, drop, map, string_bytes}
use Rattle.html5policy.specs.Names.{is_one_of}
use Rattle.html5policy.proofs.names.is_one_of.Given as goal

-- none before this one is it
abbrev pub invariant-loop-other : goal.invariant-loop-other
invariant-loop-other g l = is_one_of (map string_bytes l.names) l.name ≡ is_one_of (map string_bytes (drop l.other-index l.names)) l.name
