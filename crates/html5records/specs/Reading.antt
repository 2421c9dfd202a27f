-- What bytes read as: the token of the record at their front, its line, and the bytes after it.
--
-- Bytes that begin with no whole record read as nothing, and so do those with a kind or a flag that no record has.
use Rattle.std.specs.Prelude.{◌≡◌, ℕ, ◌+◌, ◌/◌, ◌%◌, ◌^◌, ◌<◌, zero, suc, Bool, true, false, List, [], ◌∷◌, length, take, drop, Option, None, Some, option_and_then, position, All, ◌==◌, nat_le, nat_lt, if◌then◌else◌}
use Rattle.std.specs.Int.{w64, from_le_bytes}
use Rattle.html5records.specs.Records.{text_end}
use Rattle.markup5ever.specs.Names.{AttributeOf, plain_name}
use Rattle.html5ever_interface.specs.Sink.{Message}
use Rattle.html5ever_interface.specs.Token.{Told, TagOf, DoctypeOf}
use Rattle.html5ever_interface.specs.Token.Told.{Text, Null, Error, Tag, Comment, Instruction, Doctype, End}
use Rattle.html5ever_interface.specs.declared.interface.token.TagKind.{TagKind}
use Rattle.html5ever_interface.specs.declared.interface.token.TagKind.TheVariants.{StartTag, EndTag}

infixl 10 ◌>>=◌
abbrev pub ◌>>=◌ : {X Y : Type 0} → Option X → (X → Option Y) → Option Y
read >>= next = option_and_then next read

-- a number, and the bytes after it
unfoldable pub read_number : List ℕ → Option (ℕ × List ℕ)
read_number bytes = if nat_le 8 (length bytes) then Some (from_le_bytes w64 (take 8 bytes), drop 8 bytes) else None

-- this many bytes, and those after them
unfoldable pub split_off : ℕ → List ℕ → Option (List ℕ × List ℕ)
split_off count bytes = if nat_le count (length bytes) then Some (take count bytes, drop count bytes) else None

-- a text
unfoldable pub read_counted : List ℕ → Option (List ℕ × List ℕ)
read_counted bytes = do
  count ← read_number bytes
  split_off count.0 count.1

-- a text without a length, up to the byte that ends it
unfoldable pub read_text : List ℕ → Option (List ℕ × List ℕ)
read_text bytes = do
  end ← position (λ b. b == text_end) bytes
  Some (take end bytes, drop (end + 1) bytes)

-- an attribute, whose name has no prefix and no namespace
unfoldable pub read_attribute : List ℕ → Option (AttributeOf × List ℕ)
read_attribute bytes = do
  name ← read_counted bytes
  value ← read_counted name.1
  Some (record { name = plain_name name.0; value = value.0 }, value.1)

-- an attribute that was read, and more after it
abbrev pub attribute_and : (List ℕ → List AttributeOf) → Option (AttributeOf × List ℕ) → List AttributeOf
attribute_and more None = []
attribute_and more (Some read) = read.0 ∷ more read.1

-- this many attributes, or those before the first that is not whole
unfoldable pub attributes_in : ℕ → List ℕ → List AttributeOf
attributes_in zero bytes = []
attributes_in (suc count) bytes = attribute_and (attributes_in count) (read_attribute bytes)

-- the bytes after this many attributes
unfoldable pub after_attributes : ℕ → List ℕ → Option (List ℕ)
after_attributes zero bytes = Some bytes
after_attributes (suc count) bytes = do
  read ← read_attribute bytes
  after_attributes count read.1

-- a byte of flags, which is below the limit
unfoldable pub read_flags : ℕ → List ℕ → Option (ℕ × List ℕ)
read_flags limit [] = None
read_flags limit (flags ∷ bytes) = if nat_lt flags limit then Some (flags, bytes) else None

-- whether the flag of this weight is set
abbrev pub has_flag : ℕ → ℕ → Bool
has_flag flags weight = flags / weight % 2 == 1

-- the parts of a tag
unfoldable pub read_tag : TagKind → List ℕ → Option (Told × List ℕ)
read_tag kind bytes = do
  flags ← read_flags 4 bytes
  name ← read_counted flags.1
  count ← read_number name.1
  rest ← after_attributes count.0 count.1
  Some (
    Tag (record {
      kind = kind;
      name = name.0;
      self_closing = has_flag flags.0 1;
      attributes = attributes_in count.0 count.1;
      had_duplicate_attributes = has_flag flags.0 2;
    }),
    rest,
  )

-- a text, if there is one
unfoldable pub read_optional : Bool → List ℕ → Option (Option (List ℕ) × List ℕ)
read_optional false bytes = Some (None, bytes)
read_optional true bytes = do
  text ← read_counted bytes
  Some (Some text.0, text.1)

-- the parts of a DOCTYPE
unfoldable pub read_doctype : List ℕ → Option (Told × List ℕ)
read_doctype bytes = do
  flags ← read_flags 16 bytes
  name ← read_optional (has_flag flags.0 1) flags.1
  public_id ← read_optional (has_flag flags.0 2) name.1
  system_id ← read_optional (has_flag flags.0 4) public_id.1
  Some (
    Doctype (record {
      name = name.0;
      public_id = public_id.0;
      system_id = system_id.0;
      force_quirks = has_flag flags.0 8;
    }),
    system_id.1,
  )

-- the token of this kind that has this text and no more
unfoldable pub text_token : ℕ → List ℕ → Option Told
text_token code text =
    if code == 4 then Some (Comment text)
    else if code == 5 then Some (Instruction text)
    else if code == 8 then Some (Error text)
    else None

-- a token that has a text and no more
unfoldable pub read_text_token : ℕ → List ℕ → Option (Told × List ℕ)
read_text_token code bytes = do
  text ← read_counted bytes
  token ← text_token code text.0
  Some (token, text.1)

-- the parts of a token of this kind
unfoldable pub read_parts : ℕ → List ℕ → Option (Told × List ℕ)
read_parts code bytes =
    if code == 1 then read_tag StartTag bytes
    else if code == 2 then read_tag EndTag bytes
    else if code == 6 then read_doctype bytes
    else if code == 7 then Some (Null, bytes)
    else if code == 9 then Some (End, bytes)
    else read_text_token code bytes

-- a text's record, and that of another token
unfoldable pub read_text_record : List ℕ → Option (Message × List ℕ)
read_text_record bytes = do
  text ← read_text bytes
  Some (record { token = Text text.0; line = 0 }, text.1)

unfoldable pub read_other_record : ℕ → List ℕ → Option (Message × List ℕ)
read_other_record code bytes = do
  line ← read_number bytes
  token ← read_parts code line.1
  Some (record { token = token.0; line = line.0 }, token.1)

-- a record: the line of a text is 0
unfoldable pub read_record : List ℕ → Option (Message × List ℕ)
read_record [] = None
read_record (code ∷ bytes) = if code == 3 then read_text_record bytes else read_other_record code bytes

-- a text whose length is a number
abbrev pub IsShort : List ℕ → Type 0
IsShort text = length text < 2 ^ 64

-- such a text, if there is one
abbrev pub IsShortIfAny : Option (List ℕ) → Type 0
IsShortIfAny None = Unit {0}
IsShortIfAny (Some text) = IsShort text

-- an attribute all of which has a place in a record
pub record IsRecordable (attribute : AttributeOf) : Type 0 where
  pub plain : attribute.name ≡ plain_name attribute.name.local
  pub local : IsShort attribute.name.local
  pub value : IsShort attribute.value

-- a tag, and a DOCTYPE, that a record tells whole
pub record IsTagToldWhole (tag : TagOf) : Type 0 where
  pub name : IsShort tag.name
  pub count : length tag.attributes < 2 ^ 64
  pub attributes : All IsRecordable tag.attributes

pub record IsDoctypeToldWhole (doctype : DoctypeOf) : Type 0 where
  pub name : IsShortIfAny doctype.name
  pub public_id : IsShortIfAny doctype.public_id
  pub system_id : IsShortIfAny doctype.system_id

-- a token that a record tells whole
abbrev pub IsToldWhole : Told → Type 0
IsToldWhole (Text text) = All (λ b. b < text_end) text
IsToldWhole Null = Unit {0}
IsToldWhole (Error message) = IsShort message
IsToldWhole (Tag tag) = IsTagToldWhole tag
IsToldWhole (Comment text) = IsShort text
IsToldWhole (Instruction content) = IsShort content
IsToldWhole (Doctype doctype) = IsDoctypeToldWhole doctype
IsToldWhole End = Unit {0}

-- a token none of whose attributes has a prefix or a namespace
abbrev pub HasPlainNames : Told → Type 0
HasPlainNames (Tag tag) = All (λ attribute. attribute.name ≡ plain_name attribute.name.local) tag.attributes
HasPlainNames other = Unit {0}

-- a line that the record of a token tells: 0 for a text, and a number for any other token
abbrev pub HasLine : Told → ℕ → Type 0
HasLine (Text text) line = line ≡ 0
HasLine other line = line < 2 ^ 64

-- a message that a record tells whole
pub record IsWhole (m : Message) : Type 0 where
  pub line : HasLine m.token m.line
  pub token : IsToldWhole m.token
