-- "Getting an XML encoding", and the two XML declarations in UTF-16 that "prescan a byte stream to determine its encoding" begins with.
use Rattle.std.specs.Prelude.{◌<◌, ℕ, ◌==◌, ◌||◌, Bool, List, [], ◌∷◌, length, drop, take, Option, None, Some, unwrap_or, codes, nat_eq, nat_lt, if◌then◌else◌}
use Rattle.std.specs.List.{list_all, position, starts_with}
use Rattle.std.specs.Option.{option_or, option_and_then, option_map}
use Rattle.html5encodings.specs.Encodings.{encoding_of}
use Rattle.html5encodings.specs.declared.encoding.Encoding.{Encoding}
use Rattle.html5encodings.specs.declared.encoding.Encoding.TheVariants as encoding
use Rattle.html5sniffing.specs.Meta.{up_to_quote}

-- the encoding of bytes that begin with `<?x` in UTF-16
unfoldable pub utf16_declared : List ℕ → Option Encoding
utf16_declared bytes =
    if starts_with nat_eq bytes (0x3C ∷ 0 ∷ 0x3F ∷ 0 ∷ 0x78 ∷ 0 ∷ []) then Some encoding.Utf16Le
    else if starts_with nat_eq bytes (0 ∷ 0x3C ∷ 0 ∷ 0x3F ∷ 0 ∷ 0x78 ∷ []) then Some encoding.Utf16Be
    else None

-- the bytes after these at the front
abbrev pub after_front : List ℕ → List ℕ → Option (List ℕ)
after_front front bytes = if starts_with nat_eq bytes front then Some (drop (length front) bytes) else None

-- the declaration: from `<?xml` at the front up to the first `>`
abbrev pub declaration : List ℕ → Option (List ℕ)
declaration bytes = option_and_then (up_to_quote 0x3E) (after_front (codes "<?xml") bytes)

-- the bytes after the first `encoding`
unfoldable pub after_encoding : List ℕ → Option (List ℕ)
after_encoding [] = None
after_encoding (byte ∷ bytes) = option_or (after_front (codes "encoding") (byte ∷ bytes)) (after_encoding bytes)

-- a byte that is neither ASCII white space nor a control
abbrev pub is_visible : ℕ → Bool
is_visible byte = nat_lt 0x20 byte

-- the bytes from the first visible one on
abbrev pub from_visible : List ℕ → List ℕ
from_visible bytes = drop (unwrap_or (position is_visible bytes) (length bytes)) bytes

-- a label in quotes at the front, each byte of it visible
abbrev pub visible_label : Option (List ℕ) → Option (List ℕ)
visible_label None = None
visible_label (Some label) = if list_all is_visible label then Some label else None

abbrev pub quoted_label : List ℕ → Option (List ℕ)
quoted_label [] = None
quoted_label (byte ∷ bytes) = if byte == 0x22 || byte == 0x27 then visible_label (up_to_quote byte bytes) else None

-- a label in quotes after an equals sign at the front
abbrev pub label_after_equals : List ℕ → Option (List ℕ)
label_after_equals [] = None
label_after_equals (byte ∷ bytes) = if byte == 0x3D then quoted_label (from_visible bytes) else None

-- the label that the declaration names
abbrev pub declared_label : List ℕ → Option (List ℕ)
declared_label bytes = option_and_then (λ rest. label_after_equals (from_visible rest)) (option_and_then after_encoding (declaration bytes))

-- a page that was read as ASCII is no UTF-16
abbrev pub declared_as : Encoding → Encoding
declared_as encoding.Utf16Be = encoding.Utf8
declared_as encoding.Utf16Le = encoding.Utf8
declared_as other = other

-- the encoding that the XML declaration at the front names
abbrev pub xml_encoding : List ℕ → Option Encoding
xml_encoding bytes = option_map declared_as (option_and_then encoding_of (declared_label bytes))
