-- "Determining the character encoding": which encoding a page is in.
use Rattle.std.specs.Prelude.{◌≡◌, ◌≤◌, ◌⊎◌, ℕ, ◌==◌, ◌||◌, ◌&&◌, Bool, true, false, is_none, List, [], ◌∷◌, length, min, take, drop, Option, None, Some, option_map, unwrap_or, encode_utf8_all, if◌then◌else◌}
use Rattle.std.specs.List.{list_all, prefix_len}
use Rattle.std.specs.Option.{option_or}
use Rattle.std.specs.Str.{is_utf8}
use Rattle.std.specs.Str.Lossy.{utf8_error_len, utf8_valid_len}
use Rattle.markup5ever.specs.NamedReferences.{NamedReference}
use Rattle.html5ever_interface.specs.Sink.{Message}
use Rattle.html5ever_interface.specs.Token.{Told, TagOf}
use Rattle.html5ever_interface.specs.Token.Told.{Tag}
use Rattle.html5stream.specs.Pages.{tags_page}
use Rattle.html5encodings.specs.Decoding.{decoded}
use Rattle.html5encodings.specs.Encodings.{bom_of}
use Rattle.html5encodings.specs.Iso2022Jp.{is_plain}
use Rattle.html5encodings.specs.declared.encoding.Encoding.{Encoding}
use Rattle.html5encodings.specs.declared.encoding.Encoding.TheVariants as encoding
use Rattle.html5encodings.specs.declared.encoding.SingleByte.TheVariants.{Windows1252}
use Rattle.html5sniffing.specs.Meta.{meta_encoding}
use Rattle.html5sniffing.specs.XmlDeclaration.{utf16_declared, xml_encoding}

-- the encoding that a byte order mark names
abbrev pub marked : List ℕ → Option Encoding
marked bytes = option_map (λ mark. mark.0) (bom_of bytes)

-- whether the front of a page is UTF-8. Its last character may be cut where 1,024 bytes are all that was looked at.
unfoldable pub is_utf8_front : List ℕ → Bool
is_utf8_front front = is_utf8 front || (length front == 1024 && is_none (utf8_error_len (drop (utf8_valid_len front) front)))

-- the encoding of a page without a declared one
abbrev pub default_of : Option Encoding → List ℕ → Encoding
default_of (Some encoding) front = encoding
default_of None front = if is_utf8_front front then encoding.Utf8 else encoding.SingleByte Windows1252

-- what a message hints
abbrev pub hint_of_token : Told → Option Encoding
hint_of_token (Tag tag) = meta_encoding tag
hint_of_token other = None

-- the first hint of some messages
unfoldable pub first_hint : List Message → Option Encoding
first_hint [] = None
first_hint (m ∷ messages) = option_or (hint_of_token m.token) (first_hint messages)

-- a reader that keeps the first hint
abbrev pub hint_step : Option Encoding → TagOf → ℕ → Option Encoding
hint_step hint tag line = option_or hint (meta_encoding tag)

-- the first hint of a text's reading
unfoldable pub hint_of_text : List NamedReference → List ℕ → Option Encoding
hint_of_text references text = first_hint (tags_page hint_step references None text)

-- The first hint by a tag of the front of a page that is decoded by the tentative encoding. "Changing the encoding while parsing": by UTF-16
-- none counts, since it would be in a page of another encoding.
abbrev pub hint_by : Encoding → List NamedReference → List ℕ → Option Encoding
hint_by encoding.Utf16Be references front = None
hint_by encoding.Utf16Le references front = None
hint_by tentative references front = hint_of_text references (encode_utf8_all (decoded tentative front))

-- The hint in the front of a page, as "prescan a byte stream to determine its encoding" has it: an XML declaration in UTF-16; else the
-- first `meta` that names an encoding; else an XML declaration.
abbrev pub hint_in : Encoding → List NamedReference → List ℕ → Option Encoding
hint_in tentative references front = option_or (utf16_declared front) (option_or (hint_by tentative references front) (xml_encoding front))

-- the encoding of a page by the hint in it, or else the default
abbrev pub hinted : List NamedReference → Option Encoding → List ℕ → Encoding
hinted references fallback front = let tentative : Encoding = default_of fallback front in unwrap_or (hint_in tentative references front) tentative

-- The encoding of a page with this front: by its byte order mark; else the declared one, as by a header of the transport; else the
-- hint in it; else the default.
unfoldable pub encoding_of_page : List NamedReference → Option Encoding → Option Encoding → List ℕ → Encoding
encoding_of_page references said fallback front = unwrap_or (option_or (marked front) said) (hinted references fallback front)

-- Whether more is looked at than these first bytes of a page: they are plain ASCII, which each encoding that has ASCII reads alike, and
-- no mark, nothing said and no hint in them tells the encoding.
abbrev pub looks_further : List NamedReference → Option Encoding → Option Encoding → List ℕ → Bool
looks_further references said fallback first =
    is_none (option_or (marked first) said) && (list_all is_plain first && is_none (hint_in (default_of fallback first) references first))

-- The front of a page: its first 1,024 bytes; or, where they tell nothing, the plain ASCII that it begins with, as long as that is, but at
-- most 65,536 bytes.
unfoldable pub front_of : List NamedReference → Option Encoding → Option Encoding → List ℕ → List ℕ
front_of references said fallback bytes =
    if looks_further references said fallback (take 1024 bytes) then take (min (prefix_len is_plain bytes) 65536) bytes else take 1024 bytes

-- these bytes have the front of the page, whatever follows them
pub record IsWhole (references : List NamedReference) (said fallback : Option Encoding) (bytes : List ℕ) : Type 0 where
  pub first : 1024 ≤ length bytes
  pub further : looks_further references said fallback (take 1024 bytes) ≡ true → (65536 ≤ length bytes) ⊎ (list_all is_plain bytes ≡ false)

-- the encoding of a page with these bytes
abbrev pub encoding_by : List NamedReference → Option Encoding → Option Encoding → List ℕ → Encoding
encoding_by references said fallback bytes = encoding_of_page references said fallback (front_of references said fallback bytes)

-- the text of a page: all its bytes, decoded by the encoding of the page
abbrev pub text_of_page : List NamedReference → Option Encoding → Option Encoding → List ℕ → List ℕ
text_of_page references said fallback bytes = encode_utf8_all (decoded (encoding_by references said fallback bytes) bytes)
