-- States by their names. These are vocabulary of proofs: `state_name` (`html5ever_interface`, `States`) says how each is written.
use Rattle.std.specs.Prelude.{ℕ, List, codes, Option, None, Some, if◌then◌else◌}
use Rattle.std.specs.Option.{option_or}
use Rattle.std.specs.Str.{bytes_eq}
use Rattle.html5ever_interface.specs.declared.states.ScriptEscapeKind.TheVariants as escape
use Rattle.html5ever_interface.specs.declared.states.DoctypeIdKind.TheVariants as identifier
use Rattle.html5ever_interface.specs.declared.states.RawKind.TheVariants as raw
use Rattle.html5ever_interface.specs.declared.states.AttrValueKind.TheVariants as value
use Rattle.html5ever_interface.specs.declared.states.State.{State}
use Rattle.html5ever_interface.specs.declared.states.State.TheVariants as state

-- "Data state", "PLAINTEXT state", "CDATA section state" and those after it, and processing instructions
unfoldable pub text_state_named : List ℕ → Option State
text_state_named name =
    if bytes_eq name (codes "Data") then Some state.Data
    else if bytes_eq name (codes "Plaintext") then Some state.Plaintext
    else if bytes_eq name (codes "CdataSection") then Some state.CdataSection
    else if bytes_eq name (codes "CdataSectionBracket") then Some state.CdataSectionBracket
    else if bytes_eq name (codes "CdataSectionEnd") then Some state.CdataSectionEnd
    else if bytes_eq name (codes "ProcessingInstruction") then Some state.ProcessingInstruction
    else None

-- "RCDATA state", "RAWTEXT state", "Script data state", and the less-than sign states of these
unfoldable pub raw_text_state_named : List ℕ → Option State
raw_text_state_named name =
    if bytes_eq name (codes "RawData(Rcdata)") then Some (state.RawData raw.Rcdata)
    else if bytes_eq name (codes "RawData(Rawtext)") then Some (state.RawData raw.Rawtext)
    else if bytes_eq name (codes "RawData(ScriptData)") then Some (state.RawData raw.ScriptData)
    else if bytes_eq name (codes "RawData(ScriptDataEscaped(Escaped))") then Some (state.RawData (raw.ScriptDataEscaped escape.Escaped))
    else if bytes_eq name (codes "RawData(ScriptDataEscaped(DoubleEscaped))") then Some (state.RawData (raw.ScriptDataEscaped escape.DoubleEscaped))
    else if bytes_eq name (codes "RawLessThanSign(Rcdata)") then Some (state.RawLessThanSign raw.Rcdata)
    else if bytes_eq name (codes "RawLessThanSign(Rawtext)") then Some (state.RawLessThanSign raw.Rawtext)
    else if bytes_eq name (codes "RawLessThanSign(ScriptData)") then Some (state.RawLessThanSign raw.ScriptData)
    else if bytes_eq name (codes "RawLessThanSign(ScriptDataEscaped(Escaped))") then Some (state.RawLessThanSign (raw.ScriptDataEscaped escape.Escaped))
    else if bytes_eq name (codes "RawLessThanSign(ScriptDataEscaped(DoubleEscaped))") then Some (state.RawLessThanSign (raw.ScriptDataEscaped escape.DoubleEscaped))
    else None

-- "RCDATA end tag open state", "RCDATA end tag name state", and those of other raw text
unfoldable pub raw_end_state_named : List ℕ → Option State
raw_end_state_named name =
    if bytes_eq name (codes "RawEndTagOpen(Rcdata)") then Some (state.RawEndTagOpen raw.Rcdata)
    else if bytes_eq name (codes "RawEndTagOpen(Rawtext)") then Some (state.RawEndTagOpen raw.Rawtext)
    else if bytes_eq name (codes "RawEndTagOpen(ScriptData)") then Some (state.RawEndTagOpen raw.ScriptData)
    else if bytes_eq name (codes "RawEndTagOpen(ScriptDataEscaped(Escaped))") then Some (state.RawEndTagOpen (raw.ScriptDataEscaped escape.Escaped))
    else if bytes_eq name (codes "RawEndTagOpen(ScriptDataEscaped(DoubleEscaped))") then Some (state.RawEndTagOpen (raw.ScriptDataEscaped escape.DoubleEscaped))
    else if bytes_eq name (codes "RawEndTagName(Rcdata)") then Some (state.RawEndTagName raw.Rcdata)
    else if bytes_eq name (codes "RawEndTagName(Rawtext)") then Some (state.RawEndTagName raw.Rawtext)
    else if bytes_eq name (codes "RawEndTagName(ScriptData)") then Some (state.RawEndTagName raw.ScriptData)
    else if bytes_eq name (codes "RawEndTagName(ScriptDataEscaped(Escaped))") then Some (state.RawEndTagName (raw.ScriptDataEscaped escape.Escaped))
    else if bytes_eq name (codes "RawEndTagName(ScriptDataEscaped(DoubleEscaped))") then Some (state.RawEndTagName (raw.ScriptDataEscaped escape.DoubleEscaped))
    else None

-- "Script data escape start state" to "Script data double escape end state"
unfoldable pub escaped_state_named : List ℕ → Option State
escaped_state_named name =
    if bytes_eq name (codes "ScriptDataEscapeStart(Escaped)") then Some (state.ScriptDataEscapeStart escape.Escaped)
    else if bytes_eq name (codes "ScriptDataEscapeStart(DoubleEscaped)") then Some (state.ScriptDataEscapeStart escape.DoubleEscaped)
    else if bytes_eq name (codes "ScriptDataEscapeStartDash") then Some state.ScriptDataEscapeStartDash
    else if bytes_eq name (codes "ScriptDataEscapedDash(Escaped)") then Some (state.ScriptDataEscapedDash escape.Escaped)
    else if bytes_eq name (codes "ScriptDataEscapedDash(DoubleEscaped)") then Some (state.ScriptDataEscapedDash escape.DoubleEscaped)
    else if bytes_eq name (codes "ScriptDataEscapedDashDash(Escaped)") then Some (state.ScriptDataEscapedDashDash escape.Escaped)
    else if bytes_eq name (codes "ScriptDataEscapedDashDash(DoubleEscaped)") then Some (state.ScriptDataEscapedDashDash escape.DoubleEscaped)
    else if bytes_eq name (codes "ScriptDataDoubleEscapeEnd") then Some state.ScriptDataDoubleEscapeEnd
    else None

-- "Tag open state" to "Self-closing start tag state"
unfoldable pub tag_state_named : List ℕ → Option State
tag_state_named name =
    if bytes_eq name (codes "TagOpen") then Some state.TagOpen
    else if bytes_eq name (codes "EndTagOpen") then Some state.EndTagOpen
    else if bytes_eq name (codes "TagName") then Some state.TagName
    else if bytes_eq name (codes "BeforeAttributeName") then Some state.BeforeAttributeName
    else if bytes_eq name (codes "AttributeName") then Some state.AttributeName
    else if bytes_eq name (codes "AfterAttributeName") then Some state.AfterAttributeName
    else if bytes_eq name (codes "BeforeAttributeValue") then Some state.BeforeAttributeValue
    else if bytes_eq name (codes "AttributeValue(Unquoted)") then Some (state.AttributeValue value.Unquoted)
    else if bytes_eq name (codes "AttributeValue(SingleQuoted)") then Some (state.AttributeValue value.SingleQuoted)
    else if bytes_eq name (codes "AttributeValue(DoubleQuoted)") then Some (state.AttributeValue value.DoubleQuoted)
    else if bytes_eq name (codes "AfterAttributeValueQuoted") then Some state.AfterAttributeValueQuoted
    else if bytes_eq name (codes "SelfClosingStartTag") then Some state.SelfClosingStartTag
    else None

-- "Bogus comment state" to "Comment end bang state"
unfoldable pub comment_state_named : List ℕ → Option State
comment_state_named name =
    if bytes_eq name (codes "BogusComment") then Some state.BogusComment
    else if bytes_eq name (codes "MarkupDeclarationOpen") then Some state.MarkupDeclarationOpen
    else if bytes_eq name (codes "CommentStart") then Some state.CommentStart
    else if bytes_eq name (codes "CommentStartDash") then Some state.CommentStartDash
    else if bytes_eq name (codes "Comment") then Some state.Comment
    else if bytes_eq name (codes "CommentLessThanSign") then Some state.CommentLessThanSign
    else if bytes_eq name (codes "CommentLessThanSignBang") then Some state.CommentLessThanSignBang
    else if bytes_eq name (codes "CommentLessThanSignBangDash") then Some state.CommentLessThanSignBangDash
    else if bytes_eq name (codes "CommentLessThanSignBangDashDash") then Some state.CommentLessThanSignBangDashDash
    else if bytes_eq name (codes "CommentEndDash") then Some state.CommentEndDash
    else if bytes_eq name (codes "CommentEnd") then Some state.CommentEnd
    else if bytes_eq name (codes "CommentEndBang") then Some state.CommentEndBang
    else None

-- "DOCTYPE state" to "Bogus DOCTYPE state"
unfoldable pub doctype_state_named : List ℕ → Option State
doctype_state_named name =
    if bytes_eq name (codes "Doctype") then Some state.Doctype
    else if bytes_eq name (codes "BeforeDoctypeName") then Some state.BeforeDoctypeName
    else if bytes_eq name (codes "DoctypeName") then Some state.DoctypeName
    else if bytes_eq name (codes "AfterDoctypeName") then Some state.AfterDoctypeName
    else if bytes_eq name (codes "AfterDoctypeKeyword(Public)") then Some (state.AfterDoctypeKeyword identifier.Public)
    else if bytes_eq name (codes "AfterDoctypeKeyword(System)") then Some (state.AfterDoctypeKeyword identifier.System)
    else if bytes_eq name (codes "BeforeDoctypeIdentifier(Public)") then Some (state.BeforeDoctypeIdentifier identifier.Public)
    else if bytes_eq name (codes "BeforeDoctypeIdentifier(System)") then Some (state.BeforeDoctypeIdentifier identifier.System)
    else if bytes_eq name (codes "DoctypeIdentifierDoubleQuoted(Public)") then Some (state.DoctypeIdentifierDoubleQuoted identifier.Public)
    else if bytes_eq name (codes "DoctypeIdentifierDoubleQuoted(System)") then Some (state.DoctypeIdentifierDoubleQuoted identifier.System)
    else if bytes_eq name (codes "DoctypeIdentifierSingleQuoted(Public)") then Some (state.DoctypeIdentifierSingleQuoted identifier.Public)
    else if bytes_eq name (codes "DoctypeIdentifierSingleQuoted(System)") then Some (state.DoctypeIdentifierSingleQuoted identifier.System)
    else if bytes_eq name (codes "AfterDoctypeIdentifier(Public)") then Some (state.AfterDoctypeIdentifier identifier.Public)
    else if bytes_eq name (codes "AfterDoctypeIdentifier(System)") then Some (state.AfterDoctypeIdentifier identifier.System)
    else if bytes_eq name (codes "BetweenDoctypePublicAndSystemIdentifiers") then Some state.BetweenDoctypePublicAndSystemIdentifiers
    else if bytes_eq name (codes "BogusDoctype") then Some state.BogusDoctype
    else None

-- the state of that name
abbrev pub state_named : List ℕ → Option State
state_named name =
    option_or (option_or (option_or (option_or (option_or (option_or
    (text_state_named name) (raw_text_state_named name)) (raw_end_state_named name)) (escaped_state_named name))
    (tag_state_named name)) (comment_state_named name)) (doctype_state_named name)
