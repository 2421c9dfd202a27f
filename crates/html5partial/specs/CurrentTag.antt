-- The open item that a tokenizer keeps, in the words of the grammar.
use Rattle.std.specs.Prelude.{ℕ, Bool, true, false, List, [], ◌∷◌, string_bytes}
use Rattle.std.specs.Str.{chars}
use Rattle.html5ever_interface.specs.Token.{DoctypeOf, doctype_of}
use Rattle.html5ever_interface.specs.declared.states.ScriptEscapeKind.TheVariants as escape_kind
use Rattle.html5ever_interface.specs.declared.states.State.{State}
use Rattle.html5ever_interface.specs.declared.states.State.TheVariants as state
use Rattle.html5reading.specs.Cdata.{open_cdata}
use Rattle.html5reading.specs.Start.{OpenTag, Open, escaped, raw_of}
use Rattle.html5reading.specs.Start.Dashes.{OneDash, TwoDashes}
use Rattle.html5reading.specs.Start.Mode.{Data, Plain, RawText}
use Rattle.html5reading.specs.Start.RawPlace.{AfterLessThan, InEndName, AfterMark, AfterMarkAndDash, InSwitch}
use Rattle.html5reading.specs.Start.Place.{InName, BeforeAttribute, InAttributeName, AfterAttributeName, BeforeValue, InValue, AfterQuotedValue, AfterSolidus}
use Rattle.html5reading.specs.Start.DoctypePlace.{AfterWord, BeforeName, InDoctypeName, AfterName, AfterKeyword, BeforeIdentifier, InIdentifier, AfterIdentifier, BetweenIdentifiers, Skipped}
use Rattle.html5reading.specs.Start.Open.{Between, LessThan, LessThanSolidus, InTag, InRaw, InDeclaration, InComment, InBogusComment, InInstruction, InDoctype, InDoctypeKeyword}
use Rattle.html5reading.specs.Start.Quotes.{DoubleQuotes, SingleQuotes}
use Rattle.html5partial.specs.declared.current_tag.CurrentTag.{CurrentTag}
use Rattle.html5partial.specs.declared.opened.Opened.{Opened}

-- the tag that was begun
abbrev pub open_tag : {Z : Type 0} → CurrentTag Z → OpenTag
open_tag tag = record {
  kind = tag.indexed.kind;
  name = tag.indexed.name;
  attributes = tag.indexed.attributes;
  had_duplicate_attributes = tag.indexed.had_duplicate_attributes;
  last_name = string_bytes tag.attr_name;
  last_value = string_bytes tag.attr_value;
}

-- "After DOCTYPE name state": what is open after the name and white space, with what may begin a keyword
abbrev pub after_doctype_name : List ℕ → DoctypeOf → Open
after_doctype_name [] doctype = InDoctype AfterName doctype
after_doctype_name (c ∷ held) doctype = InDoctypeKeyword (c ∷ held) doctype

-- the name of the last start tag
abbrev pub last_name_of : {Z : Type 0} → Opened Z → List ℕ
last_name_of at = string_bytes at.last_start_tag

-- the standard's temporary buffer: the letters that raw text holds
abbrev pub letters_of : {Z : Type 0} → Opened Z → List ℕ
letters_of at = chars (string_bytes at.letters)

-- what is open in each state, with what the tokenizer keeps of what was begun. In a comment its text says which of the
-- standard's states it is. So the other states of comments, and of CDATA sections, are never set: each stands for a comment,
-- too.
abbrev pub open_of : {Z : Type 0} → State → Opened Z → Open
open_of state.Data at = Between Data
open_of state.Plaintext at = Between Plain
open_of state.TagOpen at = LessThan
open_of state.EndTagOpen at = LessThanSolidus
open_of state.TagName at = InTag InName (open_tag at.tag)
open_of state.BeforeAttributeName at = InTag BeforeAttribute (open_tag at.tag)
open_of state.AttributeName at = InTag InAttributeName (open_tag at.tag)
open_of state.AfterAttributeName at = InTag AfterAttributeName (open_tag at.tag)
open_of state.BeforeAttributeValue at = InTag BeforeValue (open_tag at.tag)
open_of (state.AttributeValue kind) at = InTag (InValue kind) (open_tag at.tag)
open_of state.AfterAttributeValueQuoted at = InTag AfterQuotedValue (open_tag at.tag)
open_of state.SelfClosingStartTag at = InTag AfterSolidus (open_tag at.tag)
open_of (state.RawData kind) at = Between (RawText (raw_of kind) (last_name_of at))
open_of (state.RawLessThanSign kind) at = InRaw (AfterLessThan kind) (last_name_of at)
open_of (state.RawEndTagOpen kind) at = InRaw (InEndName kind []) (last_name_of at)
open_of (state.RawEndTagName kind) at = InRaw (InEndName kind (letters_of at)) (last_name_of at)
open_of (state.ScriptDataEscapeStart escape_kind.Escaped) at = InRaw AfterMark (last_name_of at)
open_of (state.ScriptDataEscapeStart escape_kind.DoubleEscaped) at = InRaw (InSwitch escape_kind.Escaped (letters_of at)) (last_name_of at)
open_of state.ScriptDataEscapeStartDash at = InRaw AfterMarkAndDash (last_name_of at)
open_of (state.ScriptDataEscapedDash kind) at = Between (RawText (escaped kind OneDash) (last_name_of at))
open_of (state.ScriptDataEscapedDashDash kind) at = Between (RawText (escaped kind TwoDashes) (last_name_of at))
open_of state.ScriptDataDoubleEscapeEnd at = InRaw (InSwitch escape_kind.DoubleEscaped (letters_of at)) (last_name_of at)
open_of state.MarkupDeclarationOpen at = InDeclaration (string_bytes at.comment)
open_of state.BogusComment at = InBogusComment (string_bytes at.comment)
open_of state.ProcessingInstruction at = InInstruction (string_bytes at.comment)
open_of state.Doctype at = InDoctype AfterWord (doctype_of at.doctype)
open_of state.BeforeDoctypeName at = InDoctype BeforeName (doctype_of at.doctype)
open_of state.DoctypeName at = InDoctype InDoctypeName (doctype_of at.doctype)
open_of state.AfterDoctypeName at = after_doctype_name (string_bytes at.comment) (doctype_of at.doctype)
open_of (state.AfterDoctypeKeyword kind) at = InDoctype (AfterKeyword kind) (doctype_of at.doctype)
open_of (state.BeforeDoctypeIdentifier kind) at = InDoctype (BeforeIdentifier kind) (doctype_of at.doctype)
open_of (state.DoctypeIdentifierDoubleQuoted kind) at = InDoctype (InIdentifier DoubleQuotes kind) (doctype_of at.doctype)
open_of (state.DoctypeIdentifierSingleQuoted kind) at = InDoctype (InIdentifier SingleQuotes kind) (doctype_of at.doctype)
open_of (state.AfterDoctypeIdentifier kind) at = InDoctype (AfterIdentifier kind) (doctype_of at.doctype)
open_of state.BetweenDoctypePublicAndSystemIdentifiers at = InDoctype BetweenIdentifiers (doctype_of at.doctype)
open_of state.BogusDoctype at = InDoctype Skipped (doctype_of at.doctype)
open_of state.CdataSection at = open_cdata (chars (string_bytes at.comment))
open_of other at = InComment (string_bytes at.comment)

-- what is open in the state that was reached
abbrev pub opened_of : {Z : Type 0} → Opened Z → Open
opened_of at = open_of at.state at

-- whether nothing is open in the state, where this is held
abbrev pub is_between : State → List ℕ → Bool
is_between state.Data held = true
is_between state.Plaintext held = true
is_between (state.RawData kind) held = true
is_between (state.ScriptDataEscapedDash kind) held = true
is_between (state.ScriptDataEscapedDashDash kind) held = true
is_between state.CdataSection [] = true
is_between other held = false

-- "DOCTYPE state" to "Bogus DOCTYPE state": whether a DOCTYPE is open in the state
abbrev pub is_doctype_state : State → Bool
is_doctype_state state.Doctype = true
is_doctype_state state.BeforeDoctypeName = true
is_doctype_state state.DoctypeName = true
is_doctype_state state.AfterDoctypeName = true
is_doctype_state (state.AfterDoctypeKeyword kind) = true
is_doctype_state (state.BeforeDoctypeIdentifier kind) = true
is_doctype_state (state.DoctypeIdentifierDoubleQuoted kind) = true
is_doctype_state (state.DoctypeIdentifierSingleQuoted kind) = true
is_doctype_state (state.AfterDoctypeIdentifier kind) = true
is_doctype_state state.BetweenDoctypePublicAndSystemIdentifiers = true
is_doctype_state state.BogusDoctype = true
is_doctype_state other = false

-- "Comment start state" to "Comment end bang state": whether a comment is open in the state
abbrev pub is_comment_state : State → Bool
is_comment_state state.Comment = true
is_comment_state state.CommentStart = true
is_comment_state state.CommentStartDash = true
is_comment_state state.CommentLessThanSign = true
is_comment_state state.CommentLessThanSignBang = true
is_comment_state state.CommentLessThanSignBangDash = true
is_comment_state state.CommentLessThanSignBangDashDash = true
is_comment_state state.CommentEndDash = true
is_comment_state state.CommentEnd = true
is_comment_state state.CommentEndBang = true
is_comment_state state.CdataSectionBracket = true
is_comment_state state.CdataSectionEnd = true
is_comment_state other = false
