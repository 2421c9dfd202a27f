use Rattle.std.proofs.Common.{◌≡◌, drop, map, string_bytes}
use Rattle.html5policy.specs.Addresses.{has_scheme_of}
use Rattle.html5policy.proofs.addresses.has_scheme_of.Given as goal

-- none before this one is that of the address
abbrev pub invariant-loop-scheme : goal.invariant-loop-scheme
invariant-loop-scheme g l = has_scheme_of (map string_bytes l.schemes) l.address ≡ has_scheme_of (map string_bytes (drop l.scheme-index l.schemes)) l.address
