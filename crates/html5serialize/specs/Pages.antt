-- Tokens and elements with raw text, one after another.
use Rattle.std.specs.Prelude.{◌≡◌, ℕ, Bool, not, List, [], ◌∷◌, ◌++◌, ◌&&◌, chars, encode_utf8, flat_map, map}
use Rattle.std.specs.Str.{IsUtf8}
use Rattle.html5ever_interface.specs.Sink.{Means, Message}
use Rattle.html5ever_interface.specs.Token.{Told, TagOf, Reply}
use Rattle.html5ever_interface.specs.Token.Reply.{ReadRawData}
use Rattle.html5ever_interface.specs.Token.Told.{Text, Tag}
use Rattle.html5ever_interface.specs.declared.states.RawKind.{RawKind}
use Rattle.html5grammar.specs.Anywhere.{TellsByItself, start_beyond}
use Rattle.html5reading.specs.Start.{Start, Rules}
use Rattle.html5reading.specs.Start.Mode.{Data}
use Rattle.html5reading.specs.Start.Open.{Between}
use Rattle.html5reading.specs.Tag.{is_end_tag}
use Rattle.html5serialize.specs.RawTexts.{can_write_raw, end_tag_of, end_text, raw_text}
use Rattle.html5serialize.specs.ReadBack.{HasTexts, KeepsOnAfterToken, last_after_token}
use Rattle.html5serialize.specs.Tokens.{can_write, read_back, token_text, without_duplicates}
use Rattle.html5write.specs.Told.{KeepsOnAfter, proper}

-- a part of a page: a token, or a start tag with its raw text and end tag
pub data Part : Type 0 where
  One : Told → Part
  Element : TagOf → RawKind → List ℕ → Part

-- serialized
abbrev pub part_text : Part → List ℕ
part_text (One token) = token_text token
part_text (Element tag kind text) = token_text (Tag tag) ++ (raw_text kind text ++ end_text (chars tag.name))

abbrev pub parts_text : List Part → List ℕ
parts_text parts = flat_map part_text parts

abbrev pub can_write_part : Part → Bool
can_write_part (One token) = can_write token
can_write_part (Element tag kind text) = can_write (Tag tag) && (not (is_end_tag tag.kind) && can_write_raw kind tag.name text)

-- the tokens that it tells, except for errors
abbrev pub part_read_back : Part → List Told
part_read_back (One token) = read_back token
part_read_back (Element tag kind text) = read_back (Tag tag) ++ (map (λ c. Text (encode_utf8 c)) (chars text) ++ Tag (end_tag_of tag.name) ∷ [])

-- ---- what is supposed

abbrev pub PartHasTexts : Part → Type 0
PartHasTexts (One token) = HasTexts token
PartHasTexts (Element tag kind text) = HasTexts (Tag tag) × IsUtf8 text

abbrev pub PartsHaveTexts : List Part → Type 0
PartsHaveTexts [] = Unit {0}
PartsHaveTexts (part ∷ parts) = PartHasTexts part × PartsHaveTexts parts

-- the sink asks for raw text of that kind after a tag, whatever it was sent before it
abbrev pub AsksForAfter : {S H : Type 0} → (S → Told → ℕ → Reply H) → RawKind → TagOf → Type 0
AsksForAfter {S = S} reply kind tag = (t : S) (line : ℕ) → reply t (Tag tag) line ≡ ReadRawData kind

-- the sink asks for raw text after each start tag of an element, and keeps on after each other tag
abbrev pub AsksForPart : {S H : Type 0} → (S → Told → ℕ → Reply H) → Part → Type 0
AsksForPart {S = S} reply (One token) = KeepsOnAfterToken {S = S} reply token
AsksForPart {S = S} reply (Element tag kind text) = AsksForAfter {S = S} reply kind (without_duplicates tag) × KeepsOnAfter {S = S} reply (end_tag_of tag.name)

abbrev pub AsksForParts : {S H : Type 0} → (S → Told → ℕ → Reply H) → List Part → Type 0
AsksForParts reply [] = Unit {0}
AsksForParts reply (part ∷ parts) = AsksForPart reply part × AsksForParts reply parts

-- ---- a page that is read again

-- the name of the last start tag after a part
abbrev pub last_after_part : List ℕ → Part → List ℕ
last_after_part last (One token) = last_after_token last token
last_after_part last (Element tag kind text) = tag.name

unfoldable pub last_after_parts : List ℕ → List Part → List ℕ
last_after_parts last [] = last
last_after_parts last (part ∷ parts) = last_after_parts (last_after_part last part) parts

module _ {X S H : Type 0} (means : Means X S H) where
  -- the parts as they are written, one after another, tell messages that are, except for errors, exactly their tokens, wherever
  -- they stand, and nothing is open after them
  pub record ReadsParts (rules : Rules) (K : Start) (s : S) (parts : List Part) : Type 0 where
    pub messages : List Message
    pub tells : TellsByItself means rules K s (parts_text parts) messages (start_beyond K (parts_text parts) (Between Data) (last_after_parts K.last_start_tag parts))
    pub exactly : proper messages ≡ flat_map part_read_back parts
