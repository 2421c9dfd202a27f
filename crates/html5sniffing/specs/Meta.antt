-- "Extracting a character encoding from a meta element", and which encoding a start tag named meta names.
use Rattle.std.specs.Prelude.{ℕ, ◌==◌, ◌||◌, Bool, false, List, [], ◌∷◌, length, drop, take, Option, None, Some, option_map, unwrap_or, codes, if◌then◌else◌}
use Rattle.std.specs.List.{position}
use Rattle.std.specs.Option.{option_or, option_and_then}
use Rattle.std.specs.Char.{is_ascii_whitespace}
use Rattle.std.specs.Str.{bytes_eq, str_eq_ignore_ascii_case}
use Rattle.markup5ever.specs.Names.{AttributeOf}
use Rattle.html5ever_interface.specs.Token.{TagOf}
use Rattle.html5sinks.specs.Tags.{is_start_of}
use Rattle.html5encodings.specs.Encodings.{encoding_of, without_leading}
use Rattle.html5encodings.specs.declared.encoding.Encoding.{Encoding}
use Rattle.html5encodings.specs.declared.encoding.Encoding.TheVariants as encoding
use Rattle.html5encodings.specs.declared.encoding.SingleByte.TheVariants.{Windows1252}

-- whether the word "charset" is at the front, in any ASCII case
abbrev pub begins_with_charset : List ℕ → Bool
begins_with_charset bytes = str_eq_ignore_ascii_case (take 7 bytes) (codes "charset")

-- the bytes after an equals sign at the front, and ASCII white space after it
abbrev pub after_equals : List ℕ → Option (List ℕ)
after_equals [] = None
after_equals (byte ∷ bytes) = if byte == 0x3D then Some (without_leading bytes) else None

-- the bytes after the word "charset" and an equals sign at the front, with or without ASCII white space before and after the sign
abbrev pub after_charset_equals : List ℕ → Option (List ℕ)
after_charset_equals bytes = if begins_with_charset bytes then after_equals (without_leading (drop 7 bytes)) else None

-- the same at the first place where they are
unfoldable pub after_first_charset_equals : List ℕ → Option (List ℕ)
after_first_charset_equals [] = None
after_first_charset_equals (byte ∷ bytes) = option_or (after_charset_equals (byte ∷ bytes)) (after_first_charset_equals bytes)

-- the bytes up to the first one that is this quote, if there is one
abbrev pub up_to_quote : ℕ → List ℕ → Option (List ℕ)
up_to_quote quote bytes = option_map (λ n. take n bytes) (position (λ byte. byte == quote) bytes)

-- whether a byte is ASCII white space or a semicolon
abbrev pub is_separator : ℕ → Bool
is_separator byte = is_ascii_whitespace byte || byte == 0x3B

-- the bytes up to the first separator, or all
abbrev pub up_to_separator : List ℕ → List ℕ
up_to_separator bytes = take (unwrap_or (position is_separator bytes) (length bytes)) bytes

-- a label at the front: in quotes, or up to a separator
abbrev pub label_at : List ℕ → Option (List ℕ)
label_at [] = None
label_at (byte ∷ bytes) = if byte == 0x22 || byte == 0x27 then up_to_quote byte bytes else Some (up_to_separator (byte ∷ bytes))

-- the label that the content of a meta element has
abbrev pub label_in : List ℕ → Option (List ℕ)
label_in content = option_and_then label_at (after_first_charset_equals content)

-- the encoding that the content of a meta element names
abbrev pub encoding_in : List ℕ → Option Encoding
encoding_in content = option_and_then encoding_of (label_in content)

-- the value of the first attribute of this name
unfoldable pub value_of : List ℕ → List AttributeOf → Option (List ℕ)
value_of name [] = None
value_of name (a ∷ attributes) = if bytes_eq a.name.local name then Some a.value else value_of name attributes

-- whether the attributes say that `content` has the type of the page
abbrev pub says_content_type : List AttributeOf → Bool
says_content_type attributes = unwrap_or (option_map (λ value. str_eq_ignore_ascii_case value (codes "content-type")) (value_of (codes "http-equiv") attributes)) false

-- the encoding of `content` where it has the type of the page
abbrev pub encoding_by_pragma : List AttributeOf → Option Encoding
encoding_by_pragma attributes = if says_content_type attributes then option_and_then encoding_in (value_of (codes "content") attributes) else None

-- The encoding that the attributes of a meta element name, as in "prescan a byte stream to determine its encoding": a `charset` that names
-- none hides the pragma.
abbrev pub encoding_named_by : Option (List ℕ) → List AttributeOf → Option Encoding
encoding_named_by (Some label) attributes = encoding_of label
encoding_named_by None attributes = encoding_by_pragma attributes

abbrev pub encoding_named : List AttributeOf → Option Encoding
encoding_named attributes = encoding_named_by (value_of (codes "charset") attributes) attributes

-- "Changing the encoding while parsing": which encoding a hint means. A hint that was read says that the page is no UTF-16.
abbrev pub meant_by : Encoding → Encoding
meant_by encoding.Utf16Be = encoding.Utf8
meant_by encoding.Utf16Le = encoding.Utf8
meant_by encoding.XUserDefined = encoding.SingleByte Windows1252
meant_by other = other

-- the encoding that a tag is a hint of
abbrev pub meta_encoding : TagOf → Option Encoding
meta_encoding tag = if is_start_of tag (codes "meta") then option_map meant_by (encoding_named tag.attributes) else None
