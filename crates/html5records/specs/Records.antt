-- The record of each token: its kind, its line, and its parts, in bytes.
--
-- A text has no line, and no length in front. Its record begins with the first bytes of it that are sent, and goes on with
-- each further piece. Once another token comes, it ends with a byte that no UTF-8 has. So each run of text has one record,
-- however it was sent. None of it waits in memory for its end, and what was written is never rewritten.
use Rattle.std.specs.Prelude.{ℕ, ◌+◌, Bool, true, false, List, [], ◌∷◌, ◌++◌, length, Option, None, Some, is_some}
use Rattle.std.specs.Int.{w64, to_le_bytes}
use Rattle.std.specs.List.{flat_map}
use Rattle.markup5ever.specs.Names.{AttributeOf}
use Rattle.html5ever_interface.specs.Sink.{Message}
use Rattle.html5ever_interface.specs.Token.{Told, TagOf, DoctypeOf}
use Rattle.html5ever_interface.specs.Token.Told.{Text, Null, Error, Tag, Comment, Instruction, Doctype, End}
use Rattle.html5ever_interface.specs.declared.interface.token.TagKind.{TagKind}
use Rattle.html5ever_interface.specs.declared.interface.token.TagKind.TheVariants.{StartTag, EndTag}

-- a number below 2^64, in eight bytes, the low ones first
unfoldable pub number : ℕ → List ℕ
number n = to_le_bytes w64 n

-- a text: its length in bytes, and its bytes
unfoldable pub counted : List ℕ → List ℕ
counted text = number (length text) ++ text

-- a flag of this weight, if it is set
abbrev pub flag : Bool → ℕ → ℕ
flag true weight = weight
flag false weight = 0

-- an attribute: its local name and its value
unfoldable pub attribute_record : AttributeOf → List ℕ
attribute_record attribute = counted attribute.name.local ++ counted attribute.value

-- attributes: how many there are, and each
unfoldable pub attribute_records : List AttributeOf → List ℕ
attribute_records attributes = number (length attributes) ++ flat_map attribute_record attributes

-- the flags of a tag: self-closing 1, with duplicate attributes 2
abbrev pub tag_flags : TagOf → ℕ
tag_flags tag = flag tag.self_closing 1 + flag tag.had_duplicate_attributes 2

-- the flags of a DOCTYPE: with a name 1, with a public identifier 2, with a system identifier 4, in quirks mode 8
abbrev pub doctype_flags : DoctypeOf → ℕ
doctype_flags doctype =
    flag (is_some doctype.name) 1 + flag (is_some doctype.public_id) 2 + flag (is_some doctype.system_id) 4 + flag doctype.force_quirks 8

-- a text that may be missing: nothing then
unfoldable pub optional : Option (List ℕ) → List ℕ
optional None = []
optional (Some text) = counted text

-- what comes after the line of a tag
unfoldable pub tag_parts : TagOf → List ℕ
tag_parts tag = tag_flags tag ∷ counted tag.name ++ attribute_records tag.attributes

-- what comes after the line of a DOCTYPE
unfoldable pub doctype_parts : DoctypeOf → List ℕ
doctype_parts doctype =
    doctype_flags doctype ∷ optional doctype.name ++ optional doctype.public_id ++ optional doctype.system_id

-- the byte that ends a text
abbrev pub text_end : ℕ
text_end = 255

-- what comes after the line, and of a text what comes after its kind
unfoldable pub parts : Told → List ℕ
parts (Text text) = text ++ text_end ∷ []
parts Null = []
parts (Error message) = counted message
parts (Tag tag) = tag_parts tag
parts (Comment text) = counted text
parts (Instruction content) = counted content
parts (Doctype doctype) = doctype_parts doctype
parts End = []

abbrev pub tag_code : TagKind → ℕ
tag_code StartTag = 1
tag_code EndTag = 2

-- the first byte
abbrev pub code_of : Told → ℕ
code_of (Tag tag) = tag_code tag.kind
code_of (Text text) = 3
code_of (Comment text) = 4
code_of (Instruction content) = 5
code_of (Doctype doctype) = 6
code_of Null = 7
code_of (Error message) = 8
code_of End = 9

-- the kind and the line
unfoldable pub heading : ℕ → ℕ → List ℕ
heading code line = code ∷ number line

-- what comes before the parts
unfoldable pub heading_of : Told → ℕ → List ℕ
heading_of (Text text) line = 3 ∷ []
heading_of other line = heading (code_of other) line

-- the record of a token on a line
unfoldable pub record_of : Told → ℕ → List ℕ
record_of told line = heading_of told line ++ parts told

-- the records of messages, one after the other
unfoldable pub records_of : List Message → List ℕ
records_of messages = flat_map (λ m. record_of m.token m.line) messages
