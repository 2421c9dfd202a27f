use Rattle.std.proofs.Common.{◌≡◌, drop}
use Rattle.html5policy.specs.Addresses.{is_relative}
use Rattle.html5policy.proofs.addresses.is_relative.Given as goal

-- the bytes before this one decide nothing
abbrev pub invariant-loop-byte : goal.invariant-loop-byte
invariant-loop-byte l = is_relative l.address ≡ is_relative (drop l.byte-index l.address)
