-- "Legacy miscellaneous encodings": "replacement decoder" and "x-user-defined decoder"
use Rattle.std.specs.Prelude.{ℕ, ◌+◌, ◌-◌, nat_lt, Bool, not, List, [], ◌∷◌, if◌then◌else◌}
use Rattle.html5encodings.specs.Steps.{error_if}

-- the first byte is an error, and then all is finished; it says whether an error was returned
abbrev pub replaced : Bool → List ℕ
replaced returned = error_if (not returned)

-- an ASCII byte stands for itself, and another for a code point for private use
abbrev pub user_defined : ℕ → List ℕ
user_defined byte = if nat_lt byte 0x80 then (byte ∷ []) else ((0xF780 + (byte - 0x80)) ∷ [])
