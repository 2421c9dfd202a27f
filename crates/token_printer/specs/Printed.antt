-- The lines that are printed for messages, in bytes.
use Rattle.std.specs.Prelude.{◌≡◌, ℕ, Bool, true, false, List, [], ◌∷◌, ◌++◌, Option, None, Some, ◌==◌, ◌||◌, nat_lt, codes, if◌then◌else◌}
use Rattle.std.specs.List.{flat_map}
use Rattle.std.specs.Fmt.{decimal, digits}
use Rattle.markup5ever.specs.Blocks.{NoneWithin}
use Rattle.markup5ever.specs.Names.{AttributeOf}
use Rattle.html5sinks.specs.Pausing.{pausing_reply_to_tag}
use Rattle.html5ever_interface.specs.Sink.{Message}
use Rattle.html5ever_interface.specs.Token.{is_text, Told, TagOf, DoctypeOf, Reply}
use Rattle.html5ever_interface.specs.Token.Told.{Text, Null, Error, Tag, Comment, Instruction, Doctype, End}
use Rattle.html5ever_interface.specs.Token.Reply.{RunScript, SwitchEncoding}
use Rattle.html5ever_interface.specs.declared.interface.token.TagKind.{TagKind}
use Rattle.html5ever_interface.specs.declared.interface.token.TagKind.TheVariants.{StartTag, EndTag}

-- whether a byte may not stand in quotes as it is
unfoldable pub needs_escape : ℕ → Bool
needs_escape byte = nat_lt byte 0x20 || (byte == 0x22) || (byte == 0x5C) || (byte == 0x7F)

-- the same, as a kind of bytes
abbrev pub NeedsEscape : ℕ → Type 0
NeedsEscape byte = needs_escape byte ≡ true

-- none of the bytes from one place up to another needs an escape
abbrev pub IsPlainWithin : List ℕ → ℕ → ℕ → Type 0
IsPlainWithin bytes from to = NoneWithin NeedsEscape bytes from to

-- the escape of such a byte in quotes
unfoldable pub escape : ℕ → List ℕ
escape byte =
    if byte == 0x5C then codes "\\\\"
    else if byte == 0x22 then codes "\\\""
    else if byte == 0x0A then codes "\\n"
    else codes "\\u{" ++ digits 16 false byte ++ codes "}"

-- the quoted form of a byte
unfoldable pub quoted_byte : ℕ → List ℕ
quoted_byte byte = if needs_escape byte then escape byte else byte ∷ []

-- the quoted form of a text
unfoldable pub quoted_bytes : List ℕ → List ℕ
quoted_bytes text = flat_map quoted_byte text

-- a text with its quotes
unfoldable pub quoted : List ℕ → List ℕ
quoted text = codes "\"" ++ quoted_bytes text ++ codes "\""

-- a mark, if it is set
unfoldable pub mark_where : Bool → List ℕ → List ℕ
mark_where true mark = mark
mark_where false mark = []

-- the word that a tag's line begins with
abbrev pub kind_word : TagKind → List ℕ
kind_word StartTag = codes "start "
kind_word EndTag = codes "end "

-- an attribute in a tag's line: its local name and its value
unfoldable pub printed_attribute : AttributeOf → List ℕ
printed_attribute attribute = codes " " ++ quoted attribute.name.local ++ codes "=" ++ quoted attribute.value

unfoldable pub printed_attributes : List AttributeOf → List ℕ
printed_attributes attributes = flat_map printed_attribute attributes

-- the same where it closes the quote before it, and leaves its own last quote open
unfoldable pub open_attribute : AttributeOf → List ℕ
open_attribute attribute =
    codes "\" \"" ++ quoted_bytes attribute.name.local ++ codes "\"=\"" ++ quoted_bytes attribute.value

unfoldable pub open_attributes : List AttributeOf → List ℕ
open_attributes attributes = flat_map open_attribute attributes

-- the part of a doctype's line for what it may lack
abbrev pub printed_option : Option (List ℕ) → List ℕ
printed_option None = codes " -"
printed_option (Some text) = codes " " ++ quoted text

-- a line of a word and the number of a line
unfoldable pub line_with_number : List ℕ → ℕ → List ℕ
line_with_number word line = word ++ decimal line ++ codes "\n"

-- a word, the number of a line and a text
unfoldable pub numbered_text : List ℕ → ℕ → List ℕ → List ℕ
numbered_text word line text = word ++ decimal line ++ codes " " ++ quoted text

-- a line of those
unfoldable pub line_with_text : List ℕ → ℕ → List ℕ → List ℕ
line_with_text word line text = numbered_text word line text ++ codes "\n"

-- the marks at the end of a tag's line
unfoldable pub tag_marks : TagOf → List ℕ
tag_marks tag = mark_where tag.self_closing (codes " self-closing") ++ mark_where tag.had_duplicate_attributes (codes " duplicates")

unfoldable pub tag_line : TagOf → ℕ → List ℕ
tag_line tag line =
    numbered_text (kind_word tag.kind) line tag.name
    ++ printed_attributes tag.attributes
    ++ tag_marks tag
    ++ codes "\n"

-- the line after a tag's, where the reply to the tag pauses
unfoldable pub pause_line : Reply (Unit {0}) → List ℕ
pause_line (RunScript handle) = codes "pause script\n"
pause_line (SwitchEncoding charset) = codes "pause encoding " ++ quoted charset ++ codes "\n"
pause_line other = []

unfoldable pub doctype_line : DoctypeOf → ℕ → List ℕ
doctype_line doctype line =
    codes "doctype " ++ decimal line
    ++ printed_option doctype.name
    ++ printed_option doctype.public_id
    ++ printed_option doctype.system_id
    ++ mark_where doctype.force_quirks (codes " quirks")
    ++ codes "\n"

-- the line of a token, and of a tag the pause line too
unfoldable pub printed_line : Told → ℕ → List ℕ
printed_line (Text text) line = codes "text " ++ quoted text ++ codes "\n"
printed_line Null line = line_with_number (codes "null ") line
printed_line (Error message) line = line_with_text (codes "error ") line message
printed_line (Tag tag) line = tag_line tag line ++ pause_line (pausing_reply_to_tag tag)
printed_line (Comment text) line = line_with_text (codes "comment ") line text
printed_line (Instruction content) line = line_with_text (codes "pi ") line content
printed_line (Doctype doctype) line = doctype_line doctype line
printed_line End line = line_with_number (codes "eof ") line

-- the text that a token tells, if it tells one
abbrev pub told_text : Told → List ℕ
told_text (Text text) = text
told_text other = []

-- the text of the first message, if that is a text
unfoldable pub first_text : List Message → List ℕ
first_text [] = []
first_text (m ∷ M) = told_text m.token

-- the messages after the first, if that is a text, and else all of them
unfoldable pub after_first_text : List Message → List Message
after_first_text [] = []
after_first_text (m ∷ M) = if is_text m.token then M else m ∷ M

-- a token in front of messages that are joined: an empty text is dropped, and another joins the text after it
unfoldable pub joined_first : Told → ℕ → List Message → List Message
joined_first (Text []) line M = M
joined_first (Text (b ∷ bs)) line M =
    record { token = Text ((b ∷ bs) ++ first_text M); line = line } ∷ after_first_text M
joined_first other line M = record { token = other; line = line } ∷ M

-- adjacent texts are one, and empty texts are gone
unfoldable pub joined : List Message → List Message
joined [] = []
joined (m ∷ M) = joined_first m.token m.line (joined M)

-- the lines of messages whose texts are joined
unfoldable pub printed_lines : List Message → List ℕ
printed_lines M = flat_map (λ m. printed_line m.token m.line) M

-- the lines of messages: a line for each but an empty text, where adjacent texts share one, and the pause lines
unfoldable pub printed : List Message → List ℕ
printed M = printed_lines (joined M)
