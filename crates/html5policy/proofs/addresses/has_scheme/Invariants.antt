use Rattle.std.proofs.Common.{◌≡◌, ◌++◌, drop}
use Rattle.std.specs.Prelude.{codes}
use Rattle.html5policy.specs.Addresses.{has_scheme}
use Rattle.html5policy.proofs.addresses.has_scheme.Given as goal

-- what is left of the scheme has to stand in what is left of the address
abbrev pub invariant-loop-byte : goal.invariant-loop-byte
invariant-loop-byte l = has_scheme l.address (l.scheme ++ codes ":") ≡ has_scheme (drop l.byte-index l.address) (l.left ++ codes ":")
