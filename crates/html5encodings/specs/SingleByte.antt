-- "single-byte decoder"
use Rattle.std.specs.Prelude.{ℕ, ◌-◌, nat_lt, Bool, false, is_none, List, [], ◌∷◌, if◌then◌else◌}
use Rattle.html5encodings.specs.declared.encoding.SingleByte.{SingleByte}
use Rattle.html5encodings.specs.IndexSingleByte.{index_of}
use Rattle.html5encodings.specs.Steps.{code_point_at, code_point_or_error}

-- an ASCII byte stands for itself, and another for what the index has at the byte less 0x80
abbrev pub handled : SingleByte → ℕ → List ℕ
handled single byte = if nat_lt byte 0x80 then (byte ∷ []) else (code_point_or_error (code_point_at (index_of single) (byte - 0x80)))

-- whether a byte is an error
abbrev pub returns_error : SingleByte → ℕ → Bool
returns_error single byte = if nat_lt byte 0x80 then false else (is_none (code_point_at (index_of single) (byte - 0x80)))
