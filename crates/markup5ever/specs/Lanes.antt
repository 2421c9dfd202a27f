-- What 16 bytes that are looked at at once hold.
use Rattle.std.specs.Prelude.{◌≡◌, ℕ, ◌%◌, ◌^◌, ◌<◌, if◌then◌else◌, List, length, slice_index, nat_lt}

-- v has 16 lanes, and lane k holds f k
pub record HasLanes (v : List ℕ) (f : ℕ → ℕ) : Type 0 where
  pub long : length v ≡ 16
  pub each : (k : ℕ) → k < 16 → slice_index v k ≡ f k

-- the bit of a byte below 128 among the eight of its eighth, and none of one from there on
abbrev pub bit_of : ℕ → ℕ
bit_of byte = if nat_lt byte 128 then 2 ^ (byte % 8) else 0
