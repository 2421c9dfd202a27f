-- A text as a sequence of items in source form, followed by at most one unfinished item. The standard's "Tokenization", by source
-- form and not by states.
use Rattle.std.specs.Prelude.{◌≡◌, ◌==◌, ◌&&◌, ◌||◌, not, nat_eq, ℕ, Bool, true, false, List, [], ◌∷◌, ◌++◌, length, codes, encode_utf8, flat_map, take, drop, Option, if◌then◌else◌}
use Rattle.html5ever_interface.specs.Sink.{Means, Message, stepped, on_line}
use Rattle.html5ever_interface.specs.Token.{Told}
use Rattle.html5ever_interface.specs.Token.Told.{Text, Null, Comment, End}
use Rattle.html5ever_interface.specs.declared.states.State.TheVariants as state
use Rattle.std.specs.List.{list_all}
use Rattle.html5grammar.specs.Comment.Opening.{Solidus}
use Rattle.html5grammar.specs.Anywhere.{start_beyond, start_after_tag}
use Rattle.html5reading.specs.Characters.{null, less_than, greater_than, ampersand, exclamation_mark, solidus, question_mark, is_letter, value_bytes}
use Rattle.html5reading.specs.Comment.{comment_state, comment_content, in_bogus_comment}
use Rattle.html5reading.specs.EndOfInput.{raw_end_error}
use Rattle.html5reading.specs.ErrorText.{error_in, end_error_in}
use Rattle.html5reading.specs.NormalisedText.{normalised, line_after, input_after}
use Rattle.html5grammar.specs.Cdata as one_cdata
use Rattle.html5grammar.specs.Cdata.{WrittenCdata, IsCdata}
use Rattle.html5grammar.specs.Comment as one_comment
use Rattle.html5grammar.specs.Comment.{WrittenComment, IsComment, can_open, spell_odd, spell_content, is_content}
use Rattle.html5grammar.specs.Doctype as one_doctype
use Rattle.html5grammar.specs.Doctype.{WrittenDoctype, IsDoctype}
use Rattle.html5grammar.specs.Instruction as one_instruction
use Rattle.html5grammar.specs.Instruction.{WrittenInstruction, IsInstruction}
use Rattle.html5grammar.specs.Reference.{has_references}
use Rattle.html5grammar.specs.Tag.{WrittenTag, written, deciding_in, found_in, IsTag, is_written, tag_told, spelled, OpenAttribute, is_open_written, open_written, IsOpenTag, spell_open_tag, open_tag_at_end}
use Rattle.html5grammar.specs.Spelled.{Spelled, spell, spell_silent, spelled_messages}
use Rattle.html5reading.specs.Start.{Input, Start, Mode, Dashes, Raw, Rules}
use Rattle.html5reading.specs.Start.Mode.{Data, Plain, RawText, Cdata}
use Rattle.html5reading.specs.Reference.{told_of}
use Rattle.html5grammar.specs.Declarations.{IsOpenKeyword, IsOpenBogusDeclaration, IsOpenDoctype, keyword_at_end, bogus_declaration_messages, open_doctype_messages, open_doctype_at_end}
use Rattle.html5reading.specs.Start.Open.{Between}
use Rattle.html5reading.specs.Start.Raw.{Escaped, DoubleEscaped}
use Rattle.html5reading.specs.Start.Dashes.{NoDash}
use Rattle.html5reading.specs.Start.Stand.{InText}
use Rattle.std.specs.Option.{is_none}
use Rattle.html5reading.specs.RawText.{is_rcdata, kind_of, lower, raw_after, raw_character, texts}
use Rattle.html5reading.specs.Text.{plain_text}
use Rattle.html5grammar.specs.RawText.{RawItem, raw_after_item, item_text, is_double_escaped, can_stand, carried, spell_text, spell_item, ends_in_letters}
use Rattle.html5grammar.specs.RawText.RawItem.{LessThan, Letters, Mark, Switch}
use Rattle.html5reading.specs.Tag.{is_end_tag}
use Rattle.std.specs.Str.{bytes_eq}

-- ---- the end

-- the line that a text reaches
abbrev pub end_line : Input → List ℕ → ℕ
end_line input Y = line_after (input_after input Y) []

-- "Data state", "PLAINTEXT state", the states of raw text and "CDATA section state", at the end: what the end tells when nothing
-- is open. In escaped script data and within a CDATA section it is an error.
abbrev pub nothing_at_end : Bool → Mode → List Told
nothing_at_end exact Data = End ∷ []
nothing_at_end exact Plain = End ∷ []
nothing_at_end exact (RawText raw name) = raw_end_error exact raw ++ End ∷ []
nothing_at_end exact Cdata = end_error_in exact state.CdataSection ∷ End ∷ []

-- ---- text

-- "Data state" and "PLAINTEXT state": whether a character is text by itself
abbrev pub is_text : Mode → ℕ → Bool
is_text Data c = not (c == less_than) && not (c == ampersand)
is_text Plain c = true
is_text mode c = false

-- "Data state" and "PLAINTEXT state": what such a character tells
abbrev pub text_told : Bool → Mode → ℕ → List Told
text_told exact Data c = if c == null then error_in exact state.Data c ∷ Null ∷ [] else Text (encode_utf8 c) ∷ []
text_told exact mode c = plain_text exact c

-- "Data state" and "PLAINTEXT state": the text Y is this character, read where it is text
pub record IsCharacter (K : Start) (Y : List ℕ) (mode : Mode) (c : ℕ) : Type 0 where
  pub starts : K.opened ≡ Between mode
  pub is_text : is_text mode c ≡ true
  pub text : normalised K.input Y ≡ c ∷ []

-- "Tag open state": whether `<` before c begins nothing
abbrev pub is_lone_before : ℕ → Bool
is_lone_before c = not (is_letter c) && (not (c == solidus) && (not (c == exclamation_mark) && not (c == question_mark)))

-- "Tag open state": whether `<` before this text begins nothing. At the end of a text it is unfinished.
abbrev pub is_lone_in : List ℕ → Bool
is_lone_in [] = false
is_lone_in (c ∷ text) = is_lone_before c

-- "Data state" and "Tag open state": whether a text of Data is text alone: it has no `&`, and no `<` begins anything
unfoldable pub is_data_text : List ℕ → Bool
is_data_text [] = true
is_data_text (c ∷ text) = not (c == ampersand) && ((not (c == less_than) || is_lone_in text) && is_data_text text)

-- "Data state" and "PLAINTEXT state": the same of each of them
abbrev pub is_text_alone : Mode → List ℕ → Bool
is_text_alone Data run = is_data_text run
is_text_alone mode run = list_all (is_text mode) run

-- "Data state" and "PLAINTEXT state": the text Y is a run of characters, all of which are text
pub record IsTextRun (K : Start) (Y : List ℕ) (mode : Mode) (run : List ℕ) : Type 0 where
  pub starts : K.opened ≡ Between mode
  pub is_text : is_text_alone mode run ≡ true
  pub text : normalised K.input Y ≡ run

-- "Tag open state": the text Y is `<` and this character, which together are text
pub record IsLone (K : Start) (Y : List ℕ) (c : ℕ) : Type 0 where
  pub starts : K.opened ≡ Between Data
  pub is_lone : is_lone_before c ≡ true
  pub is_text : is_text Data c ≡ true
  pub text : normalised K.input Y ≡ less_than ∷ c ∷ []

-- "Tag open state": what a lone `<` tells, at the character after it
abbrev pub lone_told : Bool → ℕ → List Told
lone_told exact c = error_in exact state.TagOpen c ∷ Text (codes "<") ∷ []

-- "Tag open state": what the two characters tell, both at the second
abbrev pub spell_lone : Bool → ℕ → List Spelled
spell_lone exact c =
    record { character = less_than; told = [] }
    ∷ record { character = c; told = lone_told exact c ++ text_told exact Data c }
    ∷ []

-- what a `<` tells at the character c after it, where one stands directly before
abbrev pub told_before : Bool → Bool → ℕ → List Told
told_before exact true c = lone_told exact c
told_before exact false c = []

-- "Data state" and "Tag open state": what each character of a text tells. A `<` tells itself at the character after it.
unfoldable pub spell_data : Bool → Bool → List ℕ → List Spelled
spell_data exact after [] = []
spell_data exact after (c ∷ text) =
    record { character = c; told = told_before exact after c ++ (if c == less_than then [] else text_told exact Data c) }
    ∷ spell_data exact (c == less_than) text

-- "Data state" and "PLAINTEXT state": the same of each of them
abbrev pub spell_text_run : Bool → Mode → List ℕ → List Spelled
spell_text_run exact Data run = spell_data exact false run
spell_text_run exact mode run = spell (text_told exact mode) run

-- "Tag open state": the text Y is `<`, and c after it begins an item, or a reference, and decides it
pub record IsLoneBefore (K : Start) (Y Z : List ℕ) (c : ℕ) (rest : List ℕ) : Type 0 where
  pub starts : K.opened ≡ Between Data
  pub is_lone : is_lone_before c ≡ true
  pub is_markup : is_text Data c ≡ false
  pub text : normalised K.input Y ≡ less_than ∷ []
  pub next : normalised (input_after K.input Y) Z ≡ c ∷ rest

-- "End tag open state": the text Y is an end tag without a name
pub record IsEmptyEnd (K : Start) (Y : List ℕ) : Type 0 where
  pub starts : K.opened ≡ Between Data
  pub text : normalised K.input Y ≡ codes "</>"

-- "End tag open state": what that tells, an error at its `>`
abbrev pub spell_empty_end : Bool → List Spelled
spell_empty_end exact = spell_silent (codes "</") ++ record { character = greater_than; told = error_in exact state.EndTagOpen greater_than ∷ [] } ∷ []

-- ---- references, by the whole text after the `&`

-- "Character reference state": the text Y is an `&` and what it takes of the text F that follows it, and Z is what it doesn't
-- take
pub record IsReferenceIn (rules : Rules) (K : Start) (Y Z : List ℕ) (mode : Mode) (F : List ℕ) : Type 0 where
  pub starts : K.opened ≡ Between mode
  pub has : has_references mode ≡ true
  pub decided : is_none (deciding_in rules.references F) ≡ false
  pub text : normalised K.input Y ≡ ampersand ∷ take (found_in rules false F).taken F
  pub next : normalised (input_after K.input Y) Z ≡ drop (found_in rules false F).taken F

-- "Character reference state": the text Y is an `&` and a text that leaves it undecided
pub record IsOpenReference (rules : Rules) (K : Start) (Y : List ℕ) (mode : Mode) (F : List ℕ) : Type 0 where
  pub starts : K.opened ≡ Between mode
  pub has : has_references mode ≡ true
  pub undecided : is_none (deciding_in rules.references F) ≡ true
  pub text : normalised K.input Y ≡ ampersand ∷ F

-- "Character reference state", at the end: what the reference comes to, and the rest of the text. Then nothing is open.
abbrev pub reference_at_end : Rules → Mode → List ℕ → List Told
reference_at_end rules mode F =
    (told_of (InText mode) (found_in rules false F) ++ texts (drop (found_in rules false F).taken F)) ++ nothing_at_end rules.exact mode

-- ---- raw text

-- "RCDATA state", "RAWTEXT state", "Script data state" and the escaped states: whether a character of raw text is text by itself
abbrev pub is_raw_text : Raw → ℕ → Bool
is_raw_text raw c = not (c == less_than) && not (is_rcdata raw && (c == ampersand))

-- "RCDATA state", "RAWTEXT state", "Script data state" and the escaped states: the text Y is this character of raw text
pub record IsRawCharacter (K : Start) (Y : List ℕ) (raw : Raw) (name : List ℕ) (c : ℕ) : Type 0 where
  pub starts : K.opened ≡ Between (RawText raw name)
  pub is_text : is_raw_text raw c ≡ true
  pub text : normalised K.input Y ≡ c ∷ []

-- whether an item is text at once: a mark and a switch are
abbrev pub is_text_at_once : RawItem → Bool
is_text_at_once Mark = true
is_text_at_once (Switch letters c) = true
is_text_at_once item = false

-- whether an item is text with the character after it: `<`, and `</` with letters, are
abbrev pub is_text_later : RawItem → Bool
is_text_later LessThan = true
is_text_later (Letters letters) = true
is_text_later item = false

-- whether an item can stand before this text. In escaped script data `<` before letters up to the end may still begin a switch.
abbrev pub stands_before : List ℕ → Raw → RawItem → List ℕ → Bool
stands_before name raw item text = can_stand name raw item text && not (ends_in_letters item (kind_of raw) text)

-- "Script data escape start dash state", "Script data double escape start state" and "Script data double escape end state": the
-- text Y is a mark or a switch
pub record IsRawMark (K : Start) (Y : List ℕ) (raw : Raw) (name : List ℕ) (item : RawItem) : Type 0 where
  pub starts : K.opened ≡ Between (RawText raw name)
  pub at_once : is_text_at_once item ≡ true
  pub stands : can_stand name raw item [] ≡ true
  pub text : normalised K.input Y ≡ item_text raw item

-- "RCDATA less-than sign state" and "RCDATA end tag name state", and those of other raw text: the text Y is `<`, or `</` and
-- letters, and c after that, which is text. F follows it.
pub record IsRawLessThan (K : Start) (Y Z : List ℕ) (raw : Raw) (name : List ℕ) (item : RawItem) (c : ℕ) (F : List ℕ) : Type 0 where
  pub starts : K.opened ≡ Between (RawText raw name)
  pub later : is_text_later item ≡ true
  pub stands : stands_before name raw item (c ∷ F) ≡ true
  pub is_text : is_raw_text raw c ≡ true
  pub text : normalised K.input Y ≡ item_text raw item ++ c ∷ []
  pub next : normalised (input_after K.input Y) Z ≡ F

-- what such an item and the character after it tell
abbrev pub spell_raw_less_than : Bool → Raw → RawItem → ℕ → List Spelled
spell_raw_less_than exact raw item c =
    spell_item exact raw item ++ record { character = c; told = carried raw item ++ raw_character exact (raw_after_item raw item) c } ∷ []

-- the same states: the text Y is `<`, or `</` and letters, before `<`, or before the `&` of a reference, which is c
pub record IsRawLessThanBefore (K : Start) (Y Z : List ℕ) (raw : Raw) (name : List ℕ) (item : RawItem) (c : ℕ) (F : List ℕ) : Type 0 where
  pub starts : K.opened ≡ Between (RawText raw name)
  pub later : is_text_later item ≡ true
  pub stands : stands_before name raw item (c ∷ F) ≡ true
  pub is_markup : is_raw_text raw c ≡ false
  pub text : normalised K.input Y ≡ item_text raw item
  pub next : normalised (input_after K.input Y) Z ≡ c ∷ F

-- "Appropriate end tag token": whether this is the end tag of raw text. It has the name, and double-escaped script data has none.
abbrev pub ends_raw : List ℕ → Raw → WrittenTag → Bool
ends_raw name raw tag =
    not (is_double_escaped (kind_of raw))
    && (is_end_tag tag.kind && (list_all is_letter tag.rest && bytes_eq (lower (tag.first ∷ tag.rest)) name))

-- "RCDATA end tag name state" and those of other raw text: the text Y is the end tag of raw text
pub record IsRawEnd (K : Start) (Y : List ℕ) (raw : Raw) (name : List ℕ) (tag : WrittenTag) : Type 0 where
  pub starts : K.opened ≡ Between (RawText raw name)
  pub ends : ends_raw name raw tag ≡ true
  pub is_tag : is_written tag ≡ true
  pub text : normalised K.input Y ≡ written tag

-- ---- raw text that ends within an item

-- "RCDATA less-than sign state" and "RCDATA end tag name state", and those of other raw text, at the end: the text Y is `<`, or
-- `</` and letters
pub record IsOpenRaw (K : Start) (Y : List ℕ) (raw : Raw) (name : List ℕ) (item : RawItem) : Type 0 where
  pub starts : K.opened ≡ Between (RawText raw name)
  pub later : is_text_later item ≡ true
  pub stands : can_stand name raw item [] ≡ true
  pub text : normalised K.input Y ≡ item_text raw item

-- "Script data double escape start state", at the end: `<` and letters in escaped script data, which may be those of a switch.
-- The error of the end names double-escaped script data.
pub record IsOpenSwitch (K : Start) (Y : List ℕ) (dashes : Dashes) (name : List ℕ) (first : ℕ) (letters : List ℕ) : Type 0 where
  pub starts : K.opened ≡ Between (RawText (Escaped dashes) name)
  pub are_letters : list_all is_letter (first ∷ letters) ≡ true
  pub text : normalised K.input Y ≡ less_than ∷ first ∷ letters

-- what these characters tell
abbrev pub spell_open_switch : ℕ → List ℕ → List Spelled
spell_open_switch first letters =
    record { character = less_than; told = [] } ∷ record { character = first; told = texts (less_than ∷ first ∷ []) } ∷ spell_text letters

-- the text Y is the end tag of raw text without its `>`. Something stands after its name.
pub record IsOpenRawEnd (K : Start) (Y : List ℕ) (raw : Raw) (name : List ℕ) (tag : WrittenTag) (last : Option OpenAttribute) : Type 0 where
  pub starts : K.opened ≡ Between (RawText raw name)
  pub ends : ends_raw name raw tag ≡ true
  pub has_parts : nat_eq (length tag.parts) 0 ≡ false
  pub is_open : is_open_written tag last ≡ true
  pub text : normalised K.input Y ≡ open_written tag last

-- ---- a comment without its end

-- "Comment start state" to "Comment end bang state", at the end: the text Y is `<!--` and a content in which no end of a comment
-- stands
pub record IsOpenComment (K : Start) (Y content : List ℕ) : Type 0 where
  pub starts : K.opened ≡ Between Data
  pub is_content : is_content content ≡ true
  pub text : normalised K.input Y ≡ codes "<!--" ++ content

-- what such a comment tells before the end
abbrev pub spell_open_comment : Bool → List ℕ → List Spelled
spell_open_comment exact content = spell_silent (codes "<!--") ++ spell_content exact [] content

-- what the end tells of it
abbrev pub open_comment_at_end : Bool → List ℕ → List Told
open_comment_at_end exact content =
    end_error_in exact (comment_state state.CommentEnd (flat_map value_bytes content))
    ∷ Comment (comment_content (flat_map value_bytes content)) ∷ End ∷ []

-- ---- a bogus comment without its end, after `</`

-- "Bogus comment state", at the end: the text Y is `</` and a content in which no `>` stands
pub record IsOpenBogus (K : Start) (Y : List ℕ) (content : List ℕ) : Type 0 where
  pub starts : K.opened ≡ Between Data
  pub opens : can_open false Solidus content ≡ true
  pub within : list_all in_bogus_comment content ≡ true
  pub text : normalised K.input Y ≡ codes "</" ++ content

-- what such a comment tells before the end
abbrev pub spell_open_bogus : Bool → List ℕ → List Spelled
spell_open_bogus exact content = spell_silent (codes "</") ++ spell_odd exact content

-- ---- texts that are one run, or one unfinished item: all that they tell

abbrev pub text_run_messages : Bool → Input → List ℕ → Mode → List ℕ → List Message
text_run_messages exact input Y mode run =
    spelled_messages exact input [] (spell_text_run exact mode run) ++ on_line (end_line input Y) (nothing_at_end exact mode)

abbrev pub open_comment_messages : Bool → Input → List ℕ → List ℕ → List Message
open_comment_messages exact input Y content =
    spelled_messages exact input [] (spell_open_comment exact content) ++ on_line (end_line input Y) (open_comment_at_end exact content)

abbrev pub open_bogus_messages : Bool → Input → List ℕ → List ℕ → List Message
open_bogus_messages exact input Y content =
    spelled_messages exact input [] (spell_open_bogus exact content) ++ on_line (end_line input Y) (Comment (flat_map value_bytes content) ∷ End ∷ [])

abbrev pub open_declaration_messages : Bool → Input → List ℕ → List ℕ → List Message
open_declaration_messages exact input Y content =
    bogus_declaration_messages exact input content ++ on_line (end_line input Y) (Comment (flat_map value_bytes content) ∷ End ∷ [])

abbrev pub whole_open_doctype_messages : Bool → Input → List ℕ → WrittenDoctype → List Message
whole_open_doctype_messages exact input Y doctype =
    open_doctype_messages exact input doctype.word doctype.space doctype.content
    ++ on_line (end_line input Y) (open_doctype_at_end exact doctype.space doctype.content)

module _ {X S H : Type 0} (means : Means X S H) (rules : Rules) where
  -- read from K in the sink's state s and before the text Z, the text Y is one item. It tells the messages M, and Z is read from
  -- `later`.
  pub data Item (Z : List ℕ) (K : Start) (s : S) (Y : List ℕ) : List Message → Start → Type 0 where
    -- "Data state" and "PLAINTEXT state"
    OneCharacter : (mode : Mode) (c : ℕ) → IsCharacter K Y mode c
        → Item Z K s Y (spelled_messages rules.exact K.input [] (record { character = c; told = text_told rules.exact mode c } ∷ []))
        (start_beyond K Y (Between mode) K.last_start_tag)
    -- "Tag open state"
    OneLone : (c : ℕ) → IsLone K Y c
        → Item Z K s Y (spelled_messages rules.exact K.input [] (spell_lone rules.exact c)) (start_beyond K Y (Between Data) K.last_start_tag)
    -- "Tag open state"
    OneLoneBefore : (c : ℕ) (rest : List ℕ) → IsLoneBefore K Y Z c rest
        → Item Z K s Y (on_line (line_after K.input (less_than ∷ [])) (lone_told rules.exact c))
        (start_beyond K Y (Between Data) K.last_start_tag)
    -- "End tag open state"
    OneEmptyEnd : IsEmptyEnd K Y
        → Item Z K s Y (spelled_messages rules.exact K.input [] (spell_empty_end rules.exact)) (start_beyond K Y (Between Data) K.last_start_tag)
    -- "Tag name state" to "Self-closing start tag state"
    OneTag : (tag : WrittenTag) → IsTag K Y tag
        → Item Z K s Y (spelled_messages rules.exact K.input [] (spelled rules tag))
        (start_after_tag means K s Y (tag_told rules tag) (spelled_messages rules.exact K.input [] (spelled rules tag)))
    -- "Comment start state" to "Comment end bang state", and "Bogus comment state"
    OneComment : (comment : WrittenComment) → IsComment K (means.foreign s) Y comment
        → Item Z K s Y (one_comment.messages_of rules.exact K.input comment) (start_beyond K Y (Between Data) K.last_start_tag)
    -- "DOCTYPE state" to "Bogus DOCTYPE state"
    OneDoctype : (doctype : WrittenDoctype) → IsDoctype K Y doctype
        → Item Z K s Y (one_doctype.messages_of rules.exact K.input doctype.word doctype.space doctype.content) (start_beyond K Y (Between Data) K.last_start_tag)
    -- a processing instruction, which the standard doesn't have
    OneInstruction : (instruction : WrittenInstruction) → IsInstruction K Y instruction → instruction.is_ended ≡ true
        → Item Z K s Y (one_instruction.messages_of rules.exact K.input instruction) (start_beyond K Y (Between Data) K.last_start_tag)
    -- "CDATA section state" to "CDATA section end state"
    OneCdata : (cdata : WrittenCdata) → IsCdata K (means.foreign s) Y cdata → cdata.is_ended ≡ true
        → Item Z K s Y (spelled_messages rules.exact K.input (one_cdata.opening_text cdata.has_opening) (one_cdata.spell_cdata cdata))
        (start_beyond K Y (Between Data) K.last_start_tag)
    -- "Character reference state" to "Numeric character reference end state"
    OneReferenceIn : (mode : Mode) (F : List ℕ) → IsReferenceIn rules K Y Z mode F
        → Item Z K s Y (on_line (line_after K.input (ampersand ∷ [])) (told_of (InText mode) (found_in rules false F)))
        (start_beyond K Y (Between mode) K.last_start_tag)
    -- "RCDATA state", "RAWTEXT state", "Script data state" and the escaped states
    OneRawCharacter : (raw : Raw) (name : List ℕ) (c : ℕ) → IsRawCharacter K Y raw name c
        → Item Z K s Y (spelled_messages rules.exact K.input [] (record { character = c; told = raw_character rules.exact raw c } ∷ []))
        (start_beyond K Y (Between (RawText (raw_after raw c) name)) K.last_start_tag)
    -- "Script data escape start state" and the double escape states
    OneRawMark : (raw : Raw) (name : List ℕ) (item : RawItem) → IsRawMark K Y raw name item
        → Item Z K s Y (spelled_messages rules.exact K.input [] (spell_item rules.exact raw item))
        (start_beyond K Y (Between (RawText (raw_after_item raw item) name)) K.last_start_tag)
    -- the less-than sign states and the end tag name states of raw text
    OneRawLessThan : (raw : Raw) (name : List ℕ) (item : RawItem) (c : ℕ) (F : List ℕ) → IsRawLessThan K Y Z raw name item c F
        → Item Z K s Y (spelled_messages rules.exact K.input [] (spell_raw_less_than rules.exact raw item c))
        (start_beyond K Y (Between (RawText (raw_after (raw_after_item raw item) c) name)) K.last_start_tag)
    -- the same
    OneRawLessThanBefore : (raw : Raw) (name : List ℕ) (item : RawItem) (c : ℕ) (F : List ℕ) → IsRawLessThanBefore K Y Z raw name item c F
        → Item Z K s Y
        (spelled_messages rules.exact K.input [] (spell_item rules.exact raw item) ++ on_line (line_after K.input (item_text raw item)) (carried raw item))
        (start_beyond K Y (Between (RawText (raw_after_item raw item) name)) K.last_start_tag)
    -- the end tag name states of raw text, and the states of tags after them
    OneRawEnd : (raw : Raw) (name : List ℕ) (tag : WrittenTag) → IsRawEnd K Y raw name tag
        → Item Z K s Y (spelled_messages rules.exact K.input [] (spelled rules tag))
        (start_after_tag means K s Y (tag_told rules tag) (spelled_messages rules.exact K.input [] (spelled rules tag)))

  -- read from K, the text Y is an item without its end. M are the messages that it tells, and E those that the end of input tells
  -- of it.
  pub data Unfinished (K : Start) (s : S) (Y : List ℕ) : List Message → List Message → Type 0 where
    -- "Tag open state"
    OpenLessThan : K.opened ≡ Between Data → normalised K.input Y ≡ codes "<"
        → Unfinished K s Y [] (on_line (end_line K.input Y) (end_error_in rules.exact state.TagOpen ∷ Text (codes "<") ∷ End ∷ []))
    -- "End tag open state"
    OpenSolidus : K.opened ≡ Between Data → normalised K.input Y ≡ codes "</"
        → Unfinished K s Y []
        (on_line (end_line K.input Y) (end_error_in rules.exact state.EndTagOpen ∷ Text (codes "<") ∷ Text (codes "/") ∷ End ∷ []))
    -- "Tag name state" to "Self-closing start tag state"
    OpenTag : (tag : WrittenTag) (last : Option OpenAttribute) → IsOpenTag K Y tag last
        → Unfinished K s Y (spelled_messages rules.exact K.input [] (spell_open_tag rules tag last))
        (on_line (end_line K.input Y) (open_tag_at_end rules tag last))
    -- the less-than sign states and the end tag name states of raw text
    OpenRaw : (raw : Raw) (name : List ℕ) (item : RawItem) → IsOpenRaw K Y raw name item
        → Unfinished K s Y (spelled_messages rules.exact K.input [] (spell_item rules.exact raw item))
        (on_line (end_line K.input Y) (carried raw item ++ raw_end_error rules.exact (raw_after_item raw item) ++ End ∷ []))
    -- "Script data double escape start state"
    OpenSwitch : (dashes : Dashes) (name : List ℕ) (first : ℕ) (letters : List ℕ) → IsOpenSwitch K Y dashes name first letters
        → Unfinished K s Y (spelled_messages rules.exact K.input [] (spell_open_switch first letters))
        (on_line (end_line K.input Y) (raw_end_error rules.exact (DoubleEscaped NoDash) ++ End ∷ []))
    -- the states of tags, after the name that ends raw text
    OpenRawEnd : (raw : Raw) (name : List ℕ) (tag : WrittenTag) (last : Option OpenAttribute) → IsOpenRawEnd K Y raw name tag last
        → Unfinished K s Y (spelled_messages rules.exact K.input [] (spell_open_tag rules tag last))
        (on_line (end_line K.input Y) (open_tag_at_end rules tag last))
    -- "Character reference state" to "Decimal character reference state"
    OpenReference : (mode : Mode) (F : List ℕ) → IsOpenReference rules K Y mode F
        → Unfinished K s Y [] (on_line (end_line K.input Y) (reference_at_end rules mode F))
    -- a processing instruction, which the standard doesn't have
    OpenInstruction : (instruction : WrittenInstruction) → IsInstruction K Y instruction → instruction.is_ended ≡ false
        → Unfinished K s Y (one_instruction.messages_of rules.exact K.input instruction)
        (on_line (end_line K.input Y) (one_instruction.told_at_end rules.exact false instruction.content))
    -- "Bogus comment state", after `</`
    OpenBogus : (content : List ℕ) → IsOpenBogus K Y content
        → Unfinished K s Y (spelled_messages rules.exact K.input [] (spell_open_bogus rules.exact content))
        (on_line (end_line K.input Y) (Comment (flat_map value_bytes content) ∷ End ∷ []))
    -- "Markup declaration open state"
    OpenKeyword : (held : List ℕ) → IsOpenKeyword K (means.foreign s) Y held
        → Unfinished K s Y [] (on_line (end_line K.input Y) (keyword_at_end rules.exact held))
    -- "Bogus comment state", after `<!`
    OpenBogusDeclaration : (content : List ℕ) → IsOpenBogusDeclaration K (means.foreign s) Y content
        → Unfinished K s Y (bogus_declaration_messages rules.exact K.input content)
        (on_line (end_line K.input Y) (Comment (flat_map value_bytes content) ∷ End ∷ []))
    -- "DOCTYPE state" to "Bogus DOCTYPE state"
    OpenDoctype : (doctype : WrittenDoctype) → IsOpenDoctype K Y doctype
        → Unfinished K s Y (open_doctype_messages rules.exact K.input doctype.word doctype.space doctype.content)
        (on_line (end_line K.input Y) (open_doctype_at_end rules.exact doctype.space doctype.content))
    -- "CDATA section state" to "CDATA section end state"
    OpenCdata : (cdata : WrittenCdata) → IsCdata K (means.foreign s) Y cdata → cdata.is_ended ≡ false
        → Unfinished K s Y (spelled_messages rules.exact K.input (one_cdata.opening_text cdata.has_opening) (one_cdata.spell_cdata cdata))
        (on_line (end_line K.input Y) (one_cdata.told_at_end rules.exact false cdata.last))
    -- "Comment start state" to "Comment end bang state"
    OpenComment : (content : List ℕ) → IsOpenComment K Y content
        → Unfinished K s Y (spelled_messages rules.exact K.input [] (spell_open_comment rules.exact content))
        (on_line (end_line K.input Y) (open_comment_at_end rules.exact content))

  -- read from K in the sink's state s, the text X is items, and at most one unfinished item after them. M are the messages that
  -- it tells, and E those that its end tells.
  pub data Items : Start → S → List ℕ → List Message → List Message → Type 0 where
    -- nothing is left to read
    Nothing : (K : Start) (s : S) (X : List ℕ) (mode : Mode) → K.opened ≡ Between mode → normalised K.input X ≡ []
        → Items K s X [] (on_line (end_line K.input X) (nothing_at_end rules.exact mode))
    -- an item, and then more
    Then : (K : Start) (s : S) (Y Z : List ℕ) (M N E : List Message) (later : Start) → Item Z K s Y M later
        → Items later (stepped means.step s M) Z N E → Items K s (Y ++ Z) (M ++ N) E
    -- an unfinished item
    Last : (K : Start) (s : S) (X : List ℕ) (M E : List Message) → Unfinished K s X M E → Items K s X M E

  -- ---- what contracts promise by items

  -- the text is items, and at most one unfinished one
  pub record Composed (K : Start) (s : S) (text : List ℕ) : Type 0 where
    pub tells : List Message
    pub ends : List Message
    pub items : Items K s text tells ends

  -- t is where the text's items lead: the sink was sent exactly what they tell
  pub record ToldItems (K : Start) (s : S) (text : List ℕ) (t : S) : Type 0 where
    pub tells : List Message
    pub ends : List Message
    pub items : Items K s text tells ends
    pub state : t ≡ stepped means.step s tells

  -- t is where the text's items and its end lead, after the sink finished
  pub record FinishedItems (K : Start) (s : S) (text : List ℕ) (t : S) : Type 0 where
    pub tells : List Message
    pub ends : List Message
    pub items : Items K s text tells ends
    pub state : t ≡ means.finish (stepped means.step s (tells ++ ends))
