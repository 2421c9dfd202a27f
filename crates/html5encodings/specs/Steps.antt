-- What the decoders of the Encoding Standard share. An error gives U+FFFD, as its error mode "replacement" has it.
use Rattle.std.specs.Prelude.{◌≡◌, ℕ, ◌==◌, nat_lt, Bool, List, [], ◌∷◌, ◌++◌, Option, Some, None, String, string_bytes, encode_utf8_all, slice_index, if◌then◌else◌}

-- "Indexes", index code point: the code point of a pointer in an index, if there is one
abbrev pub code_point_at : List ℕ → ℕ → Option ℕ
code_point_at index pointer = if slice_index index pointer == 0 then None else (Some (slice_index index pointer))

-- a code point, or an error if there is none
abbrev pub code_point_or_error : Option ℕ → List ℕ
code_point_or_error None = 0xFFFD ∷ []
code_point_or_error (Some code_point) = code_point ∷ []

-- a code point. If there is none, an error, and an ASCII byte is restored, and stands for itself.
abbrev pub code_point_or_restored : Option ℕ → ℕ → List ℕ
code_point_or_restored None byte = if nat_lt byte 0x80 then (0xFFFD ∷ byte ∷ []) else (0xFFFD ∷ [])
code_point_or_restored (Some code_point) byte = code_point ∷ []

-- an error, where something was begun
abbrev pub error_if : Bool → List ℕ
error_if begun = if begun then (0xFFFD ∷ []) else []

-- the text has these code points more at its end
abbrev pub Adds : {Z : Type 0} → String Z → String Z → List ℕ → Type 0
Adds old new code_points = string_bytes new ≡ string_bytes old ++ encode_utf8_all code_points
