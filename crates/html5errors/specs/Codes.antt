-- "Parse errors": the standard's codes of the errors that the tokenizer tells. The standard's sections of states say which error a
-- character is in each state, and the end.
use Rattle.std.specs.Prelude.{ℕ, Bool, true, false, ◌==◌, ◌||◌, Option, None, Some, if◌then◌else◌}
use Rattle.html5ever_interface.specs.declared.interface.message.FixedMessage.{FixedMessage}
use Rattle.html5ever_interface.specs.declared.interface.message.FixedMessage.TheVariants.{BadCharacter, UnexpectedEof, AttributesOnEndTag, SelfClosingEndTag, DuplicateAttribute, MissingSemicolon, InvalidReference, NumberWithoutDigits, EofAfterNumberSign, EofInNumber, MissingSemicolonAfterNumber, InvalidNumber}
use Rattle.html5ever_interface.specs.declared.states.DoctypeIdKind.TheVariants.{Public, System}
use Rattle.html5ever_interface.specs.declared.states.RawKind.TheVariants.{ScriptDataEscaped}
use Rattle.html5ever_interface.specs.declared.states.AttrValueKind.TheVariants.{Unquoted}
use Rattle.html5ever_interface.specs.declared.states.State.{State}
use Rattle.html5ever_interface.specs.declared.states.State.TheVariants.{TagOpen, EndTagOpen, TagName, RawData, ScriptDataEscapedDash, ScriptDataEscapedDashDash, BeforeAttributeName, AttributeName, AfterAttributeName, BeforeAttributeValue, AttributeValue, AfterAttributeValueQuoted, SelfClosingStartTag, MarkupDeclarationOpen, CommentStart, CommentStartDash, Comment, CommentLessThanSign, CommentLessThanSignBang, CommentLessThanSignBangDash, CommentLessThanSignBangDashDash, CommentEndDash, CommentEnd, CommentEndBang, Doctype, BeforeDoctypeName, DoctypeName, AfterDoctypeName, AfterDoctypeKeyword, BeforeDoctypeIdentifier, DoctypeIdentifierDoubleQuoted, DoctypeIdentifierSingleQuoted, AfterDoctypeIdentifier, BetweenDoctypePublicAndSystemIdentifiers, CdataSection, CdataSectionBracket, CdataSectionEnd}
use Rattle.html5reading.specs.Characters.{null, quotation_mark, apostrophe, less_than, equals_sign, greater_than, grave_accent}
use Rattle.html5errors.specs.declared.codes.ErrorCode.{ErrorCode}
use Rattle.html5errors.specs.declared.codes.ErrorCode.TheVariants as code

-- ---- a character that a state doesn't expect

abbrev pub is_quote : ℕ → Bool
is_quote c = (c == quotation_mark) || (c == apostrophe)

-- when only a NUL is an error
abbrev pub null_code : ℕ → Option ErrorCode
null_code c = if c == null then Some code.UnexpectedNullCharacter else None

-- "Attribute name state"
abbrev pub attribute_name_code : ℕ → Option ErrorCode
attribute_name_code c = if is_quote c || (c == less_than) then Some code.UnexpectedCharacterInAttributeName else null_code c

-- "Attribute value (unquoted) state"
abbrev pub unquoted_code : ℕ → Option ErrorCode
unquoted_code c =
    if is_quote c || (c == less_than) || (c == equals_sign) || (c == grave_accent) then Some code.UnexpectedCharacterInUnquotedAttributeValue
    else null_code c

-- the one code at a `>`, the other at any other character
abbrev pub code_by_end : ErrorCode → ErrorCode → ℕ → Option ErrorCode
code_by_end at_end other c = if c == greater_than then Some at_end else Some other

-- the code at a `>`, when nothing else but a NUL is an error
abbrev pub end_or_null_code : ErrorCode → ℕ → Option ErrorCode
end_or_null_code at_end c = if c == greater_than then Some at_end else null_code c

-- the one code at a quote, the other at any other character
abbrev pub code_by_quote : ErrorCode → ErrorCode → ℕ → Option ErrorCode
code_by_quote at_quote other c = if is_quote c then Some at_quote else Some other

-- "Before DOCTYPE public identifier state", when no quote follows
abbrev pub public_code : ℕ → Option ErrorCode
public_code c = code_by_end code.MissingDoctypePublicIdentifier code.MissingQuoteBeforeDoctypePublicIdentifier c

-- "Before DOCTYPE system identifier state", when no quote follows
abbrev pub system_code : ℕ → Option ErrorCode
system_code c = code_by_end code.MissingDoctypeSystemIdentifier code.MissingQuoteBeforeDoctypeSystemIdentifier c

-- "DOCTYPE state" to "Bogus DOCTYPE state", and all states where only a NUL is an error
abbrev pub doctype_code_in : State → ℕ → Option ErrorCode
-- "DOCTYPE state"
doctype_code_in Doctype c = Some code.MissingWhitespaceBeforeDoctypeName
-- "Before DOCTYPE name state"
doctype_code_in BeforeDoctypeName c = end_or_null_code code.MissingDoctypeName c
-- "After DOCTYPE name state"
doctype_code_in AfterDoctypeName c = Some code.InvalidCharacterSequenceAfterDoctypeName
-- "After DOCTYPE public keyword state"
doctype_code_in (AfterDoctypeKeyword Public) c = if is_quote c then Some code.MissingWhitespaceAfterDoctypePublicKeyword else public_code c
-- "After DOCTYPE system keyword state"
doctype_code_in (AfterDoctypeKeyword System) c = if is_quote c then Some code.MissingWhitespaceAfterDoctypeSystemKeyword else system_code c
-- "Before DOCTYPE public identifier state"
doctype_code_in (BeforeDoctypeIdentifier Public) c = public_code c
-- "Before DOCTYPE system identifier state"
doctype_code_in (BeforeDoctypeIdentifier System) c = system_code c
-- "DOCTYPE public identifier (double-quoted) state"
doctype_code_in (DoctypeIdentifierDoubleQuoted Public) c = end_or_null_code code.AbruptDoctypePublicIdentifier c
-- "DOCTYPE system identifier (double-quoted) state"
doctype_code_in (DoctypeIdentifierDoubleQuoted System) c = end_or_null_code code.AbruptDoctypeSystemIdentifier c
-- "DOCTYPE public identifier (single-quoted) state"
doctype_code_in (DoctypeIdentifierSingleQuoted Public) c = end_or_null_code code.AbruptDoctypePublicIdentifier c
-- "DOCTYPE system identifier (single-quoted) state"
doctype_code_in (DoctypeIdentifierSingleQuoted System) c = end_or_null_code code.AbruptDoctypeSystemIdentifier c
-- "After DOCTYPE public identifier state"
doctype_code_in (AfterDoctypeIdentifier Public) c =
    code_by_quote code.MissingWhitespaceBetweenDoctypePublicAndSystemIdentifiers code.MissingQuoteBeforeDoctypeSystemIdentifier c
-- "After DOCTYPE system identifier state"
doctype_code_in (AfterDoctypeIdentifier System) c = Some code.UnexpectedCharacterAfterDoctypeSystemIdentifier
-- "Between DOCTYPE public and system identifiers state"
doctype_code_in BetweenDoctypePublicAndSystemIdentifiers c = Some code.MissingQuoteBeforeDoctypeSystemIdentifier
-- "Data state", "Tag name state", "Comment state" and the like
doctype_code_in other c = null_code c

-- the code of a character that a state doesn't expect
abbrev pub code_in : State → ℕ → Option ErrorCode
-- "Tag open state"
code_in TagOpen c = Some code.InvalidFirstCharacterOfTagName
-- "End tag open state"
code_in EndTagOpen c = code_by_end code.MissingEndTagName code.InvalidFirstCharacterOfTagName c
-- "Before attribute name state"
code_in BeforeAttributeName c = if c == equals_sign then Some code.UnexpectedEqualsSignBeforeAttributeName else attribute_name_code c
-- "Attribute name state"
code_in AttributeName c = attribute_name_code c
-- "After attribute name state"
code_in AfterAttributeName c = attribute_name_code c
-- "Before attribute value state": the error is at a `>`, and names the `=` before it
code_in BeforeAttributeValue c = if c == equals_sign then Some code.MissingAttributeValue else None
-- "Attribute value (unquoted) state"
code_in (AttributeValue Unquoted) c = unquoted_code c
-- "After attribute value (quoted) state"
code_in AfterAttributeValueQuoted c = Some code.MissingWhitespaceBetweenAttributes
-- "Self-closing start tag state"
code_in SelfClosingStartTag c = Some code.UnexpectedSolidusInTag
-- "Markup declaration open state", when no keyword comes: the error names the `!` before that
code_in MarkupDeclarationOpen c = Some code.IncorrectlyOpenedComment
-- "Comment start state"
code_in CommentStart c = end_or_null_code code.AbruptClosingOfEmptyComment c
-- "Comment start dash state"
code_in CommentStartDash c = end_or_null_code code.AbruptClosingOfEmptyComment c
-- "Comment less-than sign bang dash dash state"
code_in CommentLessThanSignBangDashDash c = Some code.NestedComment
-- "Comment end bang state"
code_in CommentEndBang c = end_or_null_code code.IncorrectlyClosedComment c
-- doctypes, and all others
code_in other c = doctype_code_in other c

-- ---- the end of input in a state

-- "Tag name state" to "Self-closing start tag state"
abbrev pub is_in_tag : State → Bool
is_in_tag TagName = true
is_in_tag BeforeAttributeName = true
is_in_tag AttributeName = true
is_in_tag AfterAttributeName = true
is_in_tag BeforeAttributeValue = true
is_in_tag (AttributeValue kind) = true
is_in_tag AfterAttributeValueQuoted = true
is_in_tag SelfClosingStartTag = true
is_in_tag other = false

-- "Comment start state" to "Comment end bang state"
abbrev pub is_in_comment : State → Bool
is_in_comment CommentStart = true
is_in_comment CommentStartDash = true
is_in_comment Comment = true
is_in_comment CommentLessThanSign = true
is_in_comment CommentLessThanSignBang = true
is_in_comment CommentLessThanSignBangDash = true
is_in_comment CommentLessThanSignBangDashDash = true
is_in_comment CommentEndDash = true
is_in_comment CommentEnd = true
is_in_comment CommentEndBang = true
is_in_comment other = false

-- "DOCTYPE state" to "Between DOCTYPE public and system identifiers state"; in "Bogus DOCTYPE state" the end is no error
abbrev pub is_in_doctype : State → Bool
is_in_doctype Doctype = true
is_in_doctype BeforeDoctypeName = true
is_in_doctype DoctypeName = true
is_in_doctype AfterDoctypeName = true
is_in_doctype (AfterDoctypeKeyword kind) = true
is_in_doctype (BeforeDoctypeIdentifier kind) = true
is_in_doctype (DoctypeIdentifierDoubleQuoted kind) = true
is_in_doctype (DoctypeIdentifierSingleQuoted kind) = true
is_in_doctype (AfterDoctypeIdentifier kind) = true
is_in_doctype BetweenDoctypePublicAndSystemIdentifiers = true
is_in_doctype other = false

-- the code of the end of what has many states
abbrev pub markup_end_code_in : State → Option ErrorCode
markup_end_code_in state =
    if is_in_tag state then Some code.EofInTag
    else if is_in_comment state then Some code.EofInComment
    else if is_in_doctype state then Some code.EofInDoctype
    else None

-- the code of the end of input in a state
abbrev pub end_code_in : State → Option ErrorCode
-- "Tag open state" and "End tag open state"
end_code_in TagOpen = Some code.EofBeforeTagName
end_code_in EndTagOpen = Some code.EofBeforeTagName
-- "Markup declaration open state"
end_code_in MarkupDeclarationOpen = Some code.IncorrectlyOpenedComment
-- "Script data escaped state", "Script data double escaped state" and those after a dash and after two
end_code_in (RawData (ScriptDataEscaped kind)) = Some code.EofInScriptHtmlCommentLikeText
end_code_in (ScriptDataEscapedDash kind) = Some code.EofInScriptHtmlCommentLikeText
end_code_in (ScriptDataEscapedDashDash kind) = Some code.EofInScriptHtmlCommentLikeText
-- "CDATA section state" to "CDATA section end state"
end_code_in CdataSection = Some code.EofInCdata
end_code_in CdataSectionBracket = Some code.EofInCdata
end_code_in CdataSectionEnd = Some code.EofInCdata
-- tags, comments and doctypes
end_code_in other = markup_end_code_in other

-- ---- messages that name nothing of the text

-- the code of such a message
abbrev pub fixed_code : FixedMessage → Option ErrorCode
-- "Attribute name state"
fixed_code DuplicateAttribute = Some code.DuplicateAttribute
-- "Tokenization", of what an end tag should not have
fixed_code AttributesOnEndTag = Some code.EndTagWithAttributes
fixed_code SelfClosingEndTag = Some code.EndTagWithTrailingSolidus
-- "Named character reference state" and "Ambiguous ampersand state"
fixed_code MissingSemicolon = Some code.MissingSemicolonAfterCharacterReference
fixed_code InvalidReference = Some code.UnknownNamedCharacterReference
-- "Hexadecimal character reference start state" and "Decimal character reference start state"
fixed_code NumberWithoutDigits = Some code.AbsenceOfDigitsInNumericCharacterReference
fixed_code EofAfterNumberSign = Some code.AbsenceOfDigitsInNumericCharacterReference
-- "Hexadecimal character reference state" and "Decimal character reference state"
fixed_code EofInNumber = Some code.MissingSemicolonAfterCharacterReference
fixed_code MissingSemicolonAfterNumber = Some code.MissingSemicolonAfterCharacterReference
-- "Numeric character reference end state": the message doesn't say which of five errors it is
fixed_code InvalidNumber = None
-- exact errors name no state
fixed_code BadCharacter = None
fixed_code UnexpectedEof = None
