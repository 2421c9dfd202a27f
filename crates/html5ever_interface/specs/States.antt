-- The states of the tokenizer, the standard's "Tokenization": their names, and which of them read text.
use Rattle.std.specs.Prelude.{ℕ, Bool, true, false, List, ◌++◌, codes}
use Rattle.html5ever_interface.specs.declared.states.ScriptEscapeKind.{ScriptEscapeKind}
use Rattle.html5ever_interface.specs.declared.states.ScriptEscapeKind.TheVariants.{Escaped, DoubleEscaped}
use Rattle.html5ever_interface.specs.declared.states.DoctypeIdKind.{DoctypeIdKind}
use Rattle.html5ever_interface.specs.declared.states.DoctypeIdKind.TheVariants.{Public, System}
use Rattle.html5ever_interface.specs.declared.states.RawKind.{RawKind}
use Rattle.html5ever_interface.specs.declared.states.RawKind.TheVariants.{Rcdata, Rawtext, ScriptData, ScriptDataEscaped}
use Rattle.html5ever_interface.specs.declared.states.AttrValueKind.{AttrValueKind}
use Rattle.html5ever_interface.specs.declared.states.AttrValueKind.TheVariants.{Unquoted, SingleQuoted, DoubleQuoted}
use Rattle.html5ever_interface.specs.declared.states.State.{State}
use Rattle.html5ever_interface.specs.declared.states.State.TheVariants.{Data, Plaintext, TagOpen, EndTagOpen, TagName, RawData, RawLessThanSign, RawEndTagOpen, RawEndTagName, ScriptDataEscapeStart, ScriptDataEscapeStartDash, ScriptDataEscapedDash, ScriptDataEscapedDashDash, ScriptDataDoubleEscapeEnd, BeforeAttributeName, AttributeName, AfterAttributeName, BeforeAttributeValue, AttributeValue, AfterAttributeValueQuoted, SelfClosingStartTag, BogusComment, MarkupDeclarationOpen, CommentStart, CommentStartDash, Comment, CommentLessThanSign, CommentLessThanSignBang, CommentLessThanSignBangDash, CommentLessThanSignBangDashDash, CommentEndDash, CommentEnd, CommentEndBang, Doctype, BeforeDoctypeName, DoctypeName, AfterDoctypeName, AfterDoctypeKeyword, BeforeDoctypeIdentifier, DoctypeIdentifierDoubleQuoted, DoctypeIdentifierSingleQuoted, AfterDoctypeIdentifier, BetweenDoctypePublicAndSystemIdentifiers, BogusDoctype, CdataSection, CdataSectionBracket, CdataSectionEnd, ProcessingInstruction}

-- the name of a kind of escaped script data
abbrev pub script_escape_kind_name : ScriptEscapeKind → List ℕ
script_escape_kind_name Escaped = codes "Escaped"
script_escape_kind_name DoubleEscaped = codes "DoubleEscaped"

-- the name of a kind of identifier
abbrev pub doctype_id_kind_name : DoctypeIdKind → List ℕ
doctype_id_kind_name Public = codes "Public"
doctype_id_kind_name System = codes "System"

-- the name of a kind of raw text
abbrev pub raw_kind_name : RawKind → List ℕ
raw_kind_name Rcdata = codes "Rcdata"
raw_kind_name Rawtext = codes "Rawtext"
raw_kind_name ScriptData = codes "ScriptData"
raw_kind_name (ScriptDataEscaped kind) = codes "ScriptDataEscaped(" ++ script_escape_kind_name kind ++ codes ")"

-- the name of a kind of value
abbrev pub attr_value_kind_name : AttrValueKind → List ℕ
attr_value_kind_name Unquoted = codes "Unquoted"
attr_value_kind_name SingleQuoted = codes "SingleQuoted"
attr_value_kind_name DoubleQuoted = codes "DoubleQuoted"

-- the name of a state: the variant's name, and after it in parentheses the name of what it holds
abbrev pub state_name : State → List ℕ
state_name Data = codes "Data"
state_name Plaintext = codes "Plaintext"
state_name TagOpen = codes "TagOpen"
state_name EndTagOpen = codes "EndTagOpen"
state_name TagName = codes "TagName"
state_name (RawData kind) = codes "RawData(" ++ raw_kind_name kind ++ codes ")"
state_name (RawLessThanSign kind) = codes "RawLessThanSign(" ++ raw_kind_name kind ++ codes ")"
state_name (RawEndTagOpen kind) = codes "RawEndTagOpen(" ++ raw_kind_name kind ++ codes ")"
state_name (RawEndTagName kind) = codes "RawEndTagName(" ++ raw_kind_name kind ++ codes ")"
state_name (ScriptDataEscapeStart kind) = codes "ScriptDataEscapeStart(" ++ script_escape_kind_name kind ++ codes ")"
state_name ScriptDataEscapeStartDash = codes "ScriptDataEscapeStartDash"
state_name (ScriptDataEscapedDash kind) = codes "ScriptDataEscapedDash(" ++ script_escape_kind_name kind ++ codes ")"
state_name (ScriptDataEscapedDashDash kind) = codes "ScriptDataEscapedDashDash(" ++ script_escape_kind_name kind ++ codes ")"
state_name ScriptDataDoubleEscapeEnd = codes "ScriptDataDoubleEscapeEnd"
state_name BeforeAttributeName = codes "BeforeAttributeName"
state_name AttributeName = codes "AttributeName"
state_name AfterAttributeName = codes "AfterAttributeName"
state_name BeforeAttributeValue = codes "BeforeAttributeValue"
state_name (AttributeValue kind) = codes "AttributeValue(" ++ attr_value_kind_name kind ++ codes ")"
state_name AfterAttributeValueQuoted = codes "AfterAttributeValueQuoted"
state_name SelfClosingStartTag = codes "SelfClosingStartTag"
state_name BogusComment = codes "BogusComment"
state_name MarkupDeclarationOpen = codes "MarkupDeclarationOpen"
state_name CommentStart = codes "CommentStart"
state_name CommentStartDash = codes "CommentStartDash"
state_name Comment = codes "Comment"
state_name CommentLessThanSign = codes "CommentLessThanSign"
state_name CommentLessThanSignBang = codes "CommentLessThanSignBang"
state_name CommentLessThanSignBangDash = codes "CommentLessThanSignBangDash"
state_name CommentLessThanSignBangDashDash = codes "CommentLessThanSignBangDashDash"
state_name CommentEndDash = codes "CommentEndDash"
state_name CommentEnd = codes "CommentEnd"
state_name CommentEndBang = codes "CommentEndBang"
state_name Doctype = codes "Doctype"
state_name BeforeDoctypeName = codes "BeforeDoctypeName"
state_name DoctypeName = codes "DoctypeName"
state_name AfterDoctypeName = codes "AfterDoctypeName"
state_name (AfterDoctypeKeyword kind) = codes "AfterDoctypeKeyword(" ++ doctype_id_kind_name kind ++ codes ")"
state_name (BeforeDoctypeIdentifier kind) = codes "BeforeDoctypeIdentifier(" ++ doctype_id_kind_name kind ++ codes ")"
state_name (DoctypeIdentifierDoubleQuoted kind) = codes "DoctypeIdentifierDoubleQuoted(" ++ doctype_id_kind_name kind ++ codes ")"
state_name (DoctypeIdentifierSingleQuoted kind) = codes "DoctypeIdentifierSingleQuoted(" ++ doctype_id_kind_name kind ++ codes ")"
state_name (AfterDoctypeIdentifier kind) = codes "AfterDoctypeIdentifier(" ++ doctype_id_kind_name kind ++ codes ")"
state_name BetweenDoctypePublicAndSystemIdentifiers = codes "BetweenDoctypePublicAndSystemIdentifiers"
state_name BogusDoctype = codes "BogusDoctype"
state_name CdataSection = codes "CdataSection"
state_name CdataSectionBracket = codes "CdataSectionBracket"
state_name CdataSectionEnd = codes "CdataSectionEnd"
state_name ProcessingInstruction = codes "ProcessingInstruction"

-- "Data state", "PLAINTEXT state", the states of raw text and "CDATA section state": the states in which text is read, where a
-- stream may start
abbrev pub is_text_state : State → Bool
is_text_state Data = true
is_text_state Plaintext = true
is_text_state TagOpen = false
is_text_state EndTagOpen = false
is_text_state TagName = false
is_text_state (RawData kind) = true
is_text_state (RawLessThanSign kind) = false
is_text_state (RawEndTagOpen kind) = false
is_text_state (RawEndTagName kind) = false
is_text_state (ScriptDataEscapeStart kind) = false
is_text_state ScriptDataEscapeStartDash = false
is_text_state (ScriptDataEscapedDash kind) = false
is_text_state (ScriptDataEscapedDashDash kind) = false
is_text_state ScriptDataDoubleEscapeEnd = false
is_text_state BeforeAttributeName = false
is_text_state AttributeName = false
is_text_state AfterAttributeName = false
is_text_state BeforeAttributeValue = false
is_text_state (AttributeValue kind) = false
is_text_state AfterAttributeValueQuoted = false
is_text_state SelfClosingStartTag = false
is_text_state BogusComment = false
is_text_state MarkupDeclarationOpen = false
is_text_state CommentStart = false
is_text_state CommentStartDash = false
is_text_state Comment = false
is_text_state CommentLessThanSign = false
is_text_state CommentLessThanSignBang = false
is_text_state CommentLessThanSignBangDash = false
is_text_state CommentLessThanSignBangDashDash = false
is_text_state CommentEndDash = false
is_text_state CommentEnd = false
is_text_state CommentEndBang = false
is_text_state Doctype = false
is_text_state BeforeDoctypeName = false
is_text_state DoctypeName = false
is_text_state AfterDoctypeName = false
is_text_state (AfterDoctypeKeyword kind) = false
is_text_state (BeforeDoctypeIdentifier kind) = false
is_text_state (DoctypeIdentifierDoubleQuoted kind) = false
is_text_state (DoctypeIdentifierSingleQuoted kind) = false
is_text_state (AfterDoctypeIdentifier kind) = false
is_text_state BetweenDoctypePublicAndSystemIdentifiers = false
is_text_state BogusDoctype = false
is_text_state CdataSection = true
is_text_state CdataSectionBracket = false
is_text_state CdataSectionEnd = false
is_text_state ProcessingInstruction = false
