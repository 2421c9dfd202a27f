-- Bytes that are put in at one end and taken at the other.
use Rattle.std.specs.Prelude.{ℕ, ◌+◌, List, [], ◌++◌, drop}

-- all bytes that were put in, and how many of them were taken
pub record Outgoing : Type 0 where
  pub bytes : List ℕ
  pub taken : ℕ

abbrev pub none_outgoing : Outgoing
none_outgoing = record { bytes = []; taken = 0 }

-- the bytes that wait: all but those that were taken
abbrev pub waiting : Outgoing → List ℕ
waiting o = drop o.taken o.bytes

-- these bytes more were put in
abbrev pub adding : Outgoing → List ℕ → Outgoing
adding o more = record o { bytes = o.bytes ++ more }

-- this many bytes more were taken
abbrev pub taking : Outgoing → ℕ → Outgoing
taking o count = record o { taken = o.taken + count }
