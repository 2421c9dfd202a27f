use Rattle.std.proofs.Common.{◌≡◌, ◌%◌, ◌^◌, take}
use Rattle.std.specs.Prelude.{min}
use Rattle.std.specs.Str.Parse.{digits_value}
use Rattle.html5partial.proofs.number.number_value.Given as goal

-- the value of the digits so far
abbrev pub invariant-loop-byte : goal.invariant-loop-byte
invariant-loop-byte l = record {
  value : l.value ≡ min (digits_value l.base (take l.byte-index l.digits)) 0x11_0000;
  low_bits : l.low_bits ≡ digits_value l.base (take l.byte-index l.digits) % 2 ^ 32;
}
