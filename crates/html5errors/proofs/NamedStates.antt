-- The name of a state names it.
use Rattle.std.proofs.Common.{◌≡◌, refl}
use Rattle.std.specs.Prelude.{Some}
use Rattle.html5ever_interface.specs.States.{state_name}
use Rattle.html5ever_interface.specs.declared.states.ScriptEscapeKind.TheVariants.{Escaped, DoubleEscaped}
use Rattle.html5ever_interface.specs.declared.states.DoctypeIdKind.TheVariants.{Public, System}
use Rattle.html5ever_interface.specs.declared.states.RawKind.TheVariants.{Rcdata, Rawtext, ScriptData, ScriptDataEscaped}
use Rattle.html5ever_interface.specs.declared.states.AttrValueKind.TheVariants.{Unquoted, SingleQuoted, DoubleQuoted}
use Rattle.html5ever_interface.specs.declared.states.State.{State}
use Rattle.html5ever_interface.specs.declared.states.State.TheVariants.{Data, Plaintext, CdataSection, CdataSectionBracket, CdataSectionEnd, ProcessingInstruction, RawData, RawLessThanSign, RawEndTagOpen, RawEndTagName, ScriptDataEscapeStart, ScriptDataEscapeStartDash, ScriptDataEscapedDash, ScriptDataEscapedDashDash, ScriptDataDoubleEscapeEnd, TagOpen, EndTagOpen, TagName, BeforeAttributeName, AttributeName, AfterAttributeName, BeforeAttributeValue, AttributeValue, AfterAttributeValueQuoted, SelfClosingStartTag, BogusComment, MarkupDeclarationOpen, CommentStart, CommentStartDash, Comment, CommentLessThanSign, CommentLessThanSignBang, CommentLessThanSignBangDash, CommentLessThanSignBangDashDash, CommentEndDash, CommentEnd, CommentEndBang, Doctype, BeforeDoctypeName, DoctypeName, AfterDoctypeName, AfterDoctypeKeyword, BeforeDoctypeIdentifier, DoctypeIdentifierDoubleQuoted, DoctypeIdentifierSingleQuoted, AfterDoctypeIdentifier, BetweenDoctypePublicAndSystemIdentifiers, BogusDoctype}
use Rattle.html5errors.specs.StateNames.{comment_state_named, doctype_state_named, escaped_state_named, raw_end_state_named, raw_text_state_named, state_named, tag_state_named, text_state_named}

pub state_named-name : (S : State) → state_named (state_name S) ≡ Some S
unfolding text_state_named raw_text_state_named raw_end_state_named escaped_state_named tag_state_named comment_state_named doctype_state_named
state_named-name Data = refl
state_named-name Plaintext = refl
state_named-name CdataSection = refl
state_named-name CdataSectionBracket = refl
state_named-name CdataSectionEnd = refl
state_named-name ProcessingInstruction = refl
state_named-name (RawData Rcdata) = refl
state_named-name (RawData Rawtext) = refl
state_named-name (RawData ScriptData) = refl
state_named-name (RawData (ScriptDataEscaped Escaped)) = refl
state_named-name (RawData (ScriptDataEscaped DoubleEscaped)) = refl
state_named-name (RawLessThanSign Rcdata) = refl
state_named-name (RawLessThanSign Rawtext) = refl
state_named-name (RawLessThanSign ScriptData) = refl
state_named-name (RawLessThanSign (ScriptDataEscaped Escaped)) = refl
state_named-name (RawLessThanSign (ScriptDataEscaped DoubleEscaped)) = refl
state_named-name (RawEndTagOpen Rcdata) = refl
state_named-name (RawEndTagOpen Rawtext) = refl
state_named-name (RawEndTagOpen ScriptData) = refl
state_named-name (RawEndTagOpen (ScriptDataEscaped Escaped)) = refl
state_named-name (RawEndTagOpen (ScriptDataEscaped DoubleEscaped)) = refl
state_named-name (RawEndTagName Rcdata) = refl
state_named-name (RawEndTagName Rawtext) = refl
state_named-name (RawEndTagName ScriptData) = refl
state_named-name (RawEndTagName (ScriptDataEscaped Escaped)) = refl
state_named-name (RawEndTagName (ScriptDataEscaped DoubleEscaped)) = refl
state_named-name (ScriptDataEscapeStart Escaped) = refl
state_named-name (ScriptDataEscapeStart DoubleEscaped) = refl
state_named-name ScriptDataEscapeStartDash = refl
state_named-name (ScriptDataEscapedDash Escaped) = refl
state_named-name (ScriptDataEscapedDash DoubleEscaped) = refl
state_named-name (ScriptDataEscapedDashDash Escaped) = refl
state_named-name (ScriptDataEscapedDashDash DoubleEscaped) = refl
state_named-name ScriptDataDoubleEscapeEnd = refl
state_named-name TagOpen = refl
state_named-name EndTagOpen = refl
state_named-name TagName = refl
state_named-name BeforeAttributeName = refl
state_named-name AttributeName = refl
state_named-name AfterAttributeName = refl
state_named-name BeforeAttributeValue = refl
state_named-name (AttributeValue Unquoted) = refl
state_named-name (AttributeValue SingleQuoted) = refl
state_named-name (AttributeValue DoubleQuoted) = refl
state_named-name AfterAttributeValueQuoted = refl
state_named-name SelfClosingStartTag = refl
state_named-name BogusComment = refl
state_named-name MarkupDeclarationOpen = refl
state_named-name CommentStart = refl
state_named-name CommentStartDash = refl
state_named-name Comment = refl
state_named-name CommentLessThanSign = refl
state_named-name CommentLessThanSignBang = refl
state_named-name CommentLessThanSignBangDash = refl
state_named-name CommentLessThanSignBangDashDash = refl
state_named-name CommentEndDash = refl
state_named-name CommentEnd = refl
state_named-name CommentEndBang = refl
state_named-name Doctype = refl
state_named-name BeforeDoctypeName = refl
state_named-name DoctypeName = refl
state_named-name AfterDoctypeName = refl
state_named-name (AfterDoctypeKeyword Public) = refl
state_named-name (AfterDoctypeKeyword System) = refl
state_named-name (BeforeDoctypeIdentifier Public) = refl
state_named-name (BeforeDoctypeIdentifier System) = refl
state_named-name (DoctypeIdentifierDoubleQuoted Public) = refl
state_named-name (DoctypeIdentifierDoubleQuoted System) = refl
state_named-name (DoctypeIdentifierSingleQuoted Public) = refl
state_named-name (DoctypeIdentifierSingleQuoted System) = refl
state_named-name (AfterDoctypeIdentifier Public) = refl
state_named-name (AfterDoctypeIdentifier System) = refl
state_named-name BetweenDoctypePublicAndSystemIdentifiers = refl
state_named-name BogusDoctype = refl
