-- Worked cases of items: for each form a text that is it, what it tells, and what its end tells.
use Rattle.std.specs.Prelude.{ℕ, Bool, true, false, List, [], ◌∷◌, ◌++◌, codes, refl, None, Some}
use lib.Utf8.{encode}
use Rattle.html5ever_interface.specs.Sink.{Means, on_line}
use Rattle.html5ever_interface.specs.Token.{Told}
use Rattle.html5ever_interface.specs.Token.Told.{Text, Error, Tag, Comment, Instruction, Doctype, End}
use Rattle.html5ever_interface.specs.Token.Reply.{KeepOn}
use Rattle.html5ever_interface.specs.declared.interface.token.TagKind.TheVariants.{StartTag, EndTag}
use Rattle.html5ever_interface.specs.declared.states.AttrValueKind.TheVariants.{DoubleQuoted}
use Rattle.html5grammar.specs.Anywhere.{start_beyond}
use Rattle.html5reading.specs.Start.{Start, Mode}
use Rattle.html5reading.specs.Start.Dashes.{NoDash, TwoDashes}
use Rattle.html5reading.specs.Start.Mode.{Data, Plain, RawText, Cdata}
use Rattle.html5reading.specs.Start.Open.{Between}
use Rattle.html5reading.specs.Start.Quotes.{DoubleQuotes}
use Rattle.html5reading.specs.Start.Raw.{Rcdata, ScriptData, Escaped}
use Rattle.html5reading.specs.Tag.{attribute}
use Rattle.html5grammar.specs.Tag.Part.{Blank, Name, Attribute}
use Rattle.html5grammar.specs.Tag.Value.{InDoubleQuotes}
use Rattle.html5grammar.specs.Comment.WrittenComment.{Proper}
use Rattle.html5grammar.specs.Comment.Ending.{Dashes}
use Rattle.html5grammar.specs.Doctype.Content.{Named}
use Rattle.html5grammar.specs.Doctype.RestAfterName.{NoKeyword, SystemKeyword}
use Rattle.html5grammar.specs.Doctype.Identifier.{Unclosed}
use Rattle.html5grammar.specs.RawText.RawItem.{LessThan, Letters, Mark, Switch}
use Rattle.html5grammar.specs.Items.{Item, Unfinished}
use Rattle.html5grammar.specs.Items.Item.{OneCharacter, OneLone, OneLoneBefore, OneEmptyEnd, OneTag, OneComment, OneDoctype, OneInstruction, OneCdata, OneReferenceIn, OneRawCharacter, OneRawMark, OneRawLessThan, OneRawLessThanBefore, OneRawEnd}
use Rattle.html5grammar.specs.Items.Unfinished.{OpenLessThan, OpenSolidus, OpenTag, OpenRaw, OpenSwitch, OpenRawEnd, OpenReference, OpenInstruction, OpenBogus, OpenKeyword, OpenBogusDeclaration, OpenDoctype, OpenCdata, OpenComment}
use Rattle.html5reading.specs.NormalisedText as normalised_text
use Rattle.html5grammar.specs.Spelled as spelled
use Rattle.html5reading.specs.Characters as characters
use Rattle.html5reading.specs.Text as text
use Rattle.html5reading.specs.ErrorText as error_text
use Rattle.html5grammar.specs.Comment as one_comment
use Rattle.html5grammar.specs.Doctype as one_doctype
use Rattle.html5reading.specs.Doctype as doctype_words
use Rattle.html5grammar.specs.Instruction as one_instruction
use Rattle.html5reading.specs.Instruction as instruction_words
use Rattle.html5reading.specs.RawText as raw_text
use Rattle.html5grammar.specs.Cdata as one_cdata
use Rattle.html5reading.specs.EndOfInput as end_of_input
use Rattle.html5reading.specs.Comment as comment_words
use Rattle.html5grammar.specs.Declarations as declarations
use Rattle.markup5ever.specs.NamedReferences.{NamedReference}
use Rattle.html5reading.proofs.OnLiterals.{reading_on_literals, reference_on_literals}
use Rattle.html5grammar.proofs.OnLiterals.{raw_item_on_literals, tag_item_on_literals, doctype_item_on_literals, comment_item_on_literals}

-- a sink that goes on after each tag, with this answer about foreign content
abbrev sink : Bool → Means (Unit {0}) (Unit {0}) (Unit {0})
sink foreign = record {
  state = λ x. tt;
  step = λ s token line. tt;
  reply = λ s token line. KeepOn;
  foreign = λ s. foreign;
  finish = λ s. s;
  faulted = λ s token line. tt;
  end_faulted = λ s. s;
}

abbrev references : List NamedReference
references = record { name = codes "amp;"; first = 38; second = None } ∷ record { name = codes "not"; first = 0xAC; second = None } ∷ []

abbrev start : Mode → Start
start mode = record { opened = Between mode; last_start_tag = codes "title"; input = record { line = 1; after_carriage_return = false; drops_byte_order_mark = false } }

abbrev title : Mode
title = RawText Rcdata (codes "title")

abbrev script : Mode
script = RawText ScriptData (codes "script")

abbrev escaped : Mode
escaped = RawText (Escaped NoDash) (codes "script")

-- the text Y before Z is an item, which tells these tokens on line 1, and then text is read in this mode
abbrev Tells : Bool → Mode → List ℕ → List ℕ → List Told → Mode → Type 0
Tells foreign mode Y Z tokens later =
    Item (sink foreign) (record { exact = true; references = references }) Z (start mode) tt Y (on_line 1 tokens) (start_beyond (start mode) Y (Between later) (codes "title"))

-- the text Y is an unfinished item, which tells these tokens on line 1, and its end those
abbrev TellsOpen : Bool → Mode → List ℕ → List Told → List Told → Type 0
TellsOpen foreign mode Y tokens ends =
    Unfinished (sink foreign) (record { exact = true; references = references }) (start mode) tt Y (on_line 1 tokens) (on_line 1 ends)

character : Tells false Data (codes "a") [] (Text (codes "a") ∷ []) Data
unfolding encode normalised_text.normalised normalised_text.with_line_feeds normalised_text.without_dropped_first spelled.spelled_messages characters.is_bad_character normalised_text.line_after
character = OneCharacter Data 97 (record { starts = refl; is_text = refl; text = refl })

in_plain_text : Tells false Plain (codes "<") [] (Text (codes "<") ∷ []) Plain
unfolding encode normalised_text.normalised normalised_text.with_line_feeds normalised_text.without_dropped_first spelled.spelled_messages characters.is_bad_character text.plain_text normalised_text.line_after
in_plain_text = OneCharacter Plain 60 (record { starts = refl; is_text = refl; text = refl })

lone : Tells false Data (codes "<3") [] (Error (codes "Bad character") ∷ Text (codes "<") ∷ Text (codes "3") ∷ []) Data
unfolding encode characters.is_letter normalised_text.normalised normalised_text.with_line_feeds normalised_text.without_dropped_first spelled.spelled_messages characters.is_bad_character error_text.saw normalised_text.line_after
lone = OneLone 51 (record { starts = refl; is_lone = refl; is_text = refl; text = refl })

lone_before : Tells false Data (codes "<") (codes "<b>") (Error (codes "Bad character") ∷ Text (codes "<") ∷ []) Data
unfolding encode characters.is_letter normalised_text.normalised normalised_text.with_line_feeds normalised_text.without_dropped_first normalised_text.input_after normalised_text.ends_with_carriage_return error_text.saw normalised_text.line_after
lone_before = OneLoneBefore 60 (codes "b>") (record { starts = refl; is_lone = refl; is_markup = refl; text = refl; next = refl })

empty_end : Tells false Data (codes "</>") [] (Error (codes "Bad character") ∷ []) Data
unfolding encode normalised_text.normalised normalised_text.with_line_feeds normalised_text.without_dropped_first spelled.spelled_messages characters.is_bad_character error_text.saw normalised_text.line_after
empty_end = OneEmptyEnd (record { starts = refl; text = refl })

comment : Tells false Data (codes "<!--x-->") [] (Comment (codes "x") ∷ []) Data
unfolding encode one_comment.is_written one_comment.is_content one_comment.occurs one_comment.written normalised_text.normalised normalised_text.with_line_feeds normalised_text.without_dropped_first one_comment.messages_of spelled.spelled_messages characters.is_bad_character one_comment.spell_content one_comment.after_mark_error characters.value_bytes normalised_text.line_after characters.shown
comment = OneComment (Proper (codes "x") Dashes) (record { starts = refl; is_comment = refl; text = refl })

doctype : Tells false Data (codes "<!DOCTYPE Html>") [] (Doctype (record { name = Some (codes "html"); public_id = None; system_id = None; force_quirks = false }) ∷ []) Data
unfolding encode one_doctype.is_written characters.is_white_space doctype_words.in_doctype_name one_doctype.written normalised_text.normalised normalised_text.with_line_feeds normalised_text.without_dropped_first one_doctype.messages_of spelled.spelled_messages characters.is_bad_character one_doctype.messages_after_name characters.name_bytes normalised_text.line_after characters.shown
doctype = OneDoctype (record { word = codes "DOCTYPE"; space = codes " "; content = Named 72 (codes "tml") [] (NoKeyword []) }) (record { starts = refl; is_doctype = refl; text = refl })

instruction : Tells false Data (codes "<?xml?>") [] (Instruction (codes "xml?") ∷ []) Data
unfolding encode one_instruction.is_written instruction_words.in_instruction one_instruction.written normalised_text.normalised normalised_text.with_line_feeds normalised_text.without_dropped_first one_instruction.messages_of spelled.spelled_messages characters.is_bad_character characters.value_bytes normalised_text.line_after characters.shown
instruction = OneInstruction (record { content = codes "xml?"; is_ended = true }) (record { starts = refl; is_instruction = refl; text = refl }) refl

reference : Tells false Data (codes "&not") (codes " x") (Error (codes "Character reference does not end with semicolon") ∷ Text (0xC2 ∷ 0xAC ∷ []) ∷ []) Data
unfolding reading_on_literals reference_on_literals
reference = OneReferenceIn Data (codes "not x") (record { starts = refl; has = refl; decided = refl; text = refl; next = refl })

reference_in_rcdata : Tells false title (codes "&amp;") (codes "b") (Text (codes "&") ∷ []) title
unfolding reading_on_literals reference_on_literals
reference_in_rcdata = OneReferenceIn title (codes "amp;b") (record { starts = refl; has = refl; decided = refl; text = refl; next = refl })

raw_character : Tells false title (codes ">") [] (Text (codes ">") ∷ []) title
unfolding encode normalised_text.normalised normalised_text.with_line_feeds normalised_text.without_dropped_first spelled.spelled_messages characters.is_bad_character raw_text.raw_character normalised_text.line_after raw_text.raw_after
raw_character = OneRawCharacter Rcdata (codes "title") 62 (record { starts = refl; is_text = refl; text = refl })

mark : Tells false script (codes "<!--") [] (Text (codes "<") ∷ Text (codes "!") ∷ Text (codes "-") ∷ Text (codes "-") ∷ []) (RawText (Escaped TwoDashes) (codes "script"))
unfolding encode raw_text.kind_of normalised_text.normalised normalised_text.with_line_feeds normalised_text.without_dropped_first spelled.spelled_messages characters.is_bad_character normalised_text.line_after
mark = OneRawMark ScriptData (codes "script") Mark (record { starts = refl; at_once = refl; stands = refl; text = refl })

switch : Tells false escaped (codes "<b>") [] (Text (codes "<") ∷ Text (codes "b") ∷ Text (codes ">") ∷ []) escaped
unfolding encode raw_text.kind_of characters.is_letter raw_text.ends_name characters.is_white_space normalised_text.normalised normalised_text.with_line_feeds normalised_text.without_dropped_first spelled.spelled_messages characters.is_bad_character normalised_text.line_after raw_text.switched characters.name_bytes characters.shown
switch = OneRawMark (Escaped NoDash) (codes "script") (Switch (codes "b") 62) (record { starts = refl; at_once = refl; stands = refl; text = refl })

raw_less_than : Tells false title (codes "<b") [] (Text (codes "<") ∷ Text (codes "b") ∷ []) title
unfolding encode raw_text.kind_of normalised_text.normalised normalised_text.with_line_feeds normalised_text.without_dropped_first spelled.spelled_messages characters.is_bad_character normalised_text.line_after raw_text.raw_character raw_text.raw_after
raw_less_than = OneRawLessThan Rcdata (codes "title") LessThan 98 [] (record { starts = refl; later = refl; stands = refl; is_text = refl; text = refl; next = refl })

raw_letters : Tells false title (codes "</b>") (codes "x") (Text (codes "<") ∷ Text (codes "/") ∷ Text (codes "b") ∷ Text (codes ">") ∷ []) title
unfolding raw_item_on_literals
raw_letters = OneRawLessThan Rcdata (codes "title") (Letters (codes "b")) 62 (codes "x") (record { starts = refl; later = refl; stands = refl; is_text = refl; text = refl; next = refl })

raw_before : Tells false title (codes "<") (codes "&amp;") (Text (codes "<") ∷ []) title
unfolding encode raw_text.kind_of normalised_text.normalised normalised_text.with_line_feeds normalised_text.without_dropped_first normalised_text.input_after normalised_text.ends_with_carriage_return spelled.spelled_messages characters.is_bad_character normalised_text.line_after
raw_before = OneRawLessThanBefore Rcdata (codes "title") LessThan 38 (codes "amp;") (record { starts = refl; later = refl; stands = refl; is_markup = refl; text = refl; next = refl })

raw_end : Tells false title (codes "</Title>") [] (Tag (record { kind = EndTag; name = codes "title"; self_closing = false; attributes = []; had_duplicate_attributes = false }) ∷ []) Data
unfolding raw_item_on_literals
raw_end = OneRawEnd Rcdata (codes "title") (record { kind = EndTag; first = 84; rest = codes "itle"; parts = [] }) (record { starts = refl; ends = refl; is_tag = refl; text = refl })

tag_with_reference : Tells false Data (codes "</a b=" ++ (34 ∷ codes "x&amp;y" ++ (34 ∷ codes ">"))) [] (Error (codes "Attributes on an end tag") ∷ Tag (record { kind = EndTag; name = codes "a"; self_closing = false; attributes = attribute (codes "b") (codes "x&y") ∷ []; had_duplicate_attributes = false }) ∷ []) Data
unfolding tag_item_on_literals
tag_with_reference = OneTag (record { kind = EndTag; first = 97; rest = []; parts = Blank 32 ∷ Attribute 98 [] [] [] (InDoubleQuotes (codes "x&amp;y")) ∷ [] }) (record { starts = refl; is_tag = refl; text = refl })

section : Tells true Data (codes "<![CDATA[a]]>") [] (Text (codes "a") ∷ []) Data
unfolding encode one_cdata.is_written one_cdata.is_piece one_comment.occurs one_cdata.written normalised_text.normalised normalised_text.with_line_feeds normalised_text.without_dropped_first one_cdata.pieces_text spelled.spelled_messages one_cdata.spell_pieces characters.is_bad_character normalised_text.line_after
section = OneCdata (record { has_opening = true; pieces = []; last = codes "a"; is_ended = true }) (record { starts = refl; is_cdata = refl; text = refl }) refl

open_less_than : TellsOpen false Data (codes "<") [] (Error (codes "Unexpected EOF") ∷ Text (codes "<") ∷ End ∷ [])
unfolding encode normalised_text.normalised normalised_text.with_line_feeds normalised_text.without_dropped_first error_text.saw_end normalised_text.line_after normalised_text.input_after
open_less_than = OpenLessThan refl refl

open_solidus : TellsOpen false Data (codes "</") [] (Error (codes "Unexpected EOF") ∷ Text (codes "<") ∷ Text (codes "/") ∷ End ∷ [])
unfolding encode normalised_text.normalised normalised_text.with_line_feeds normalised_text.without_dropped_first error_text.saw_end normalised_text.line_after normalised_text.input_after
open_solidus = OpenSolidus refl refl

open_tag : TellsOpen false Data (codes "<a b=" ++ (34 ∷ codes "x&amp;")) [] (Error (codes "Unexpected EOF") ∷ End ∷ [])
unfolding tag_item_on_literals
open_tag = OpenTag (record { kind = StartTag; first = 97; rest = []; parts = Blank 32 ∷ [] }) (Some (record { first = 98; name = []; space = []; afterwards = []; kind = DoubleQuoted; run = codes "x&amp;" })) (record { starts = refl; is_open = refl; text = refl })

open_letters : TellsOpen false title (codes "</tit") [] (Text (codes "<") ∷ Text (codes "/") ∷ Text (codes "t") ∷ Text (codes "i") ∷ Text (codes "t") ∷ End ∷ [])
unfolding encode raw_text.kind_of characters.is_letter normalised_text.normalised normalised_text.with_line_feeds normalised_text.without_dropped_first spelled.spelled_messages characters.is_bad_character normalised_text.line_after end_of_input.raw_end_error normalised_text.input_after
open_letters = OpenRaw Rcdata (codes "title") (Letters (codes "tit")) (record { starts = refl; later = refl; stands = refl; text = refl })

open_switch : TellsOpen false escaped (codes "<scr") (Text (codes "<") ∷ Text (codes "s") ∷ Text (codes "c") ∷ Text (codes "r") ∷ []) (Error (codes "Unexpected EOF") ∷ End ∷ [])
unfolding encode characters.is_letter normalised_text.normalised normalised_text.with_line_feeds normalised_text.without_dropped_first spelled.spelled_messages characters.is_bad_character normalised_text.line_after end_of_input.raw_end_error error_text.saw_end normalised_text.input_after
open_switch = OpenSwitch NoDash (codes "script") 115 (codes "cr") (record { starts = refl; are_letters = refl; text = refl })

open_raw_end : TellsOpen false title (codes "</title a") [] (Error (codes "Unexpected EOF") ∷ End ∷ [])
unfolding raw_item_on_literals
open_raw_end = OpenRawEnd Rcdata (codes "title") (record { kind = EndTag; first = 116; rest = codes "itle"; parts = Blank 32 ∷ Name 97 [] ∷ [] }) None (record { starts = refl; ends = refl; has_parts = refl; is_open = refl; text = refl })

open_reference : TellsOpen false Data (codes "&am") [] (Text (codes "&") ∷ Text (codes "a") ∷ Text (codes "m") ∷ End ∷ [])
unfolding reading_on_literals reference_on_literals
open_reference = OpenReference Data (codes "am") (record { starts = refl; has = refl; undecided = refl; text = refl })

open_instruction : TellsOpen false Data (codes "<?x") [] (Error (codes "Unexpected EOF") ∷ Instruction (codes "x") ∷ End ∷ [])
unfolding encode one_instruction.is_written instruction_words.in_instruction one_instruction.written normalised_text.normalised normalised_text.with_line_feeds normalised_text.without_dropped_first one_instruction.messages_of spelled.spelled_messages characters.is_bad_character error_text.saw_end normalised_text.line_after characters.value_bytes normalised_text.input_after characters.shown
open_instruction = OpenInstruction (record { content = codes "x"; is_ended = false }) (record { starts = refl; is_instruction = refl; text = refl }) refl

open_bogus : TellsOpen false Data (codes "</3") (Error (codes "Bad character") ∷ []) (Comment (codes "3") ∷ End ∷ [])
unfolding encode characters.is_letter comment_words.in_bogus_comment normalised_text.normalised normalised_text.with_line_feeds normalised_text.without_dropped_first spelled.spelled_messages characters.is_bad_character error_text.saw normalised_text.line_after characters.value_bytes normalised_text.input_after characters.shown
open_bogus = OpenBogus (codes "3") (record { starts = refl; opens = refl; within = refl; text = refl })

open_keyword : TellsOpen false Data (codes "<!doc") [] (Error (codes "Bad character") ∷ Comment (codes "doc") ∷ End ∷ [])
unfolding encode declarations.may_begin comment_words.begins_keyword normalised_text.normalised normalised_text.with_line_feeds normalised_text.without_dropped_first error_text.saw normalised_text.line_after normalised_text.input_after
open_keyword = OpenKeyword (codes "doc") (record { starts = refl; opens = refl; undecided = refl; text = refl })

open_bogus_declaration : TellsOpen false Data (codes "<!x") (Error (codes "Bad character") ∷ []) (Comment (codes "x") ∷ End ∷ [])
unfolding encode declarations.may_begin comment_words.begins_keyword comment_words.in_bogus_comment normalised_text.normalised normalised_text.with_line_feeds normalised_text.without_dropped_first error_text.saw normalised_text.line_after spelled.spelled_messages characters.is_bad_character characters.value_bytes normalised_text.input_after characters.shown
open_bogus_declaration = OpenBogusDeclaration (codes "x") (record { starts = refl; opens = refl; decided = refl; within = refl; text = refl })

open_doctype : TellsOpen false Data (codes "<!DOCTYPE a system " ++ (34 ∷ codes "b")) [] (Error (codes "Unexpected EOF") ∷ Doctype (record { name = Some (codes "a"); public_id = None; system_id = Some (codes "b"); force_quirks = true }) ∷ End ∷ [])
unfolding doctype_item_on_literals
open_doctype = OpenDoctype (record { word = codes "DOCTYPE"; space = codes " "; content = Named 97 [] (codes " ") (SystemKeyword (codes "system") (codes " ") (Unclosed DoubleQuotes (codes "b"))) }) (record { starts = refl; is_doctype = refl; text = refl })

open_doctype_keyword : TellsOpen false Data (codes "<!DOCTYPE a pub") [] (Error (codes "Bad character") ∷ Doctype (record { name = Some (codes "a"); public_id = None; system_id = None; force_quirks = true }) ∷ End ∷ [])
unfolding doctype_item_on_literals
open_doctype_keyword = OpenDoctype (record { word = codes "DOCTYPE"; space = codes " "; content = Named 97 [] (codes " ") (NoKeyword (codes "pub")) }) (record { starts = refl; is_doctype = refl; text = refl })

open_section : TellsOpen false Cdata (codes "a") [] (Text (codes "a") ∷ Error (codes "Unexpected EOF") ∷ End ∷ [])
unfolding encode one_cdata.is_written one_cdata.is_piece one_comment.occurs one_cdata.written normalised_text.normalised one_cdata.pieces_text normalised_text.with_line_feeds normalised_text.without_dropped_first spelled.spelled_messages one_cdata.spell_pieces characters.is_bad_character normalised_text.line_after error_text.saw_end normalised_text.input_after
open_section = OpenCdata (record { has_opening = false; pieces = []; last = codes "a"; is_ended = false }) (record { starts = refl; is_cdata = refl; text = refl }) refl

open_comment : TellsOpen false Data (codes "<!--x-") [] (Error (codes "Unexpected EOF") ∷ Comment (codes "x") ∷ End ∷ [])
unfolding comment_item_on_literals
open_comment = OpenComment (codes "x-") (record { starts = refl; is_content = refl; text = refl })
