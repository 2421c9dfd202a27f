-- "Get an encoding" and "BOM sniff"
use Rattle.std.specs.Prelude.{ℕ, ◌-◌, List, [], ◌∷◌, length, take, drop, Option, Some, None, nat_eq, if◌then◌else◌}
use Rattle.std.specs.Char.{is_ascii_whitespace}
use Rattle.std.specs.List.{prefix_len, suffix_len, starts_with}
use Rattle.std.specs.Str.{str_eq_ignore_ascii_case}
use Rattle.html5encodings.specs.declared.encoding.Encoding.{Encoding}
use Rattle.html5encodings.specs.declared.encoding.Encoding.TheVariants.{Utf8, Utf16Be, Utf16Le}
use Rattle.html5encodings.specs.Labels.{labels}

-- a label without leading ASCII white space, and one without trailing too
abbrev pub without_leading : List ℕ → List ℕ
without_leading label = drop (prefix_len is_ascii_whitespace label) label

abbrev pub without_trailing : List ℕ → List ℕ
without_trailing label = take (length label - suffix_len is_ascii_whitespace label) label

-- the encoding of the first row whose label this one is, in any ASCII case
abbrev pub found : List (List ℕ × Encoding) → List ℕ → Option Encoding
found [] label = None
found (row ∷ rows) label = if str_eq_ignore_ascii_case label row.0 then (Some row.1) else (found rows label)

-- the encoding that a label names, if it names one
abbrev pub encoding_of : List ℕ → Option Encoding
encoding_of label = found labels (without_trailing (without_leading label))

-- the encoding that a byte order mark names, and how many bytes the mark has
abbrev pub bom_of : List ℕ → Option (Encoding × ℕ)
bom_of bytes = if starts_with nat_eq bytes (0xEF ∷ 0xBB ∷ 0xBF ∷ []) then Some (Utf8, 3)
    else (if starts_with nat_eq bytes (0xFE ∷ 0xFF ∷ []) then Some (Utf16Be, 2)
    else (if starts_with nat_eq bytes (0xFF ∷ 0xFE ∷ []) then Some (Utf16Le, 2) else None))
