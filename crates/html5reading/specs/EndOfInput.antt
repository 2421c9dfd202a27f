-- What the end of input tells, by what is open there. Vocabulary of proofs: `html5grammar/specs/Items` says what it tells of each
-- unfinished item.
use Rattle.std.specs.Prelude.{Bool, List, [], ◌∷◌, ◌++◌, codes, None}
use Rattle.html5ever_interface.specs.Token.{Told, DoctypeOf}
use Rattle.html5ever_interface.specs.Token.Told.{Text, Comment, Instruction, Doctype, End}
use Rattle.html5ever_interface.specs.declared.states.State.{State}
use Rattle.html5ever_interface.specs.declared.states.AttrValueKind.TheVariants.{Unquoted}
use Rattle.html5ever_interface.specs.declared.states.State.TheVariants as state
use Rattle.html5reading.specs.Characters.{solidus, less_than}
use Rattle.html5reading.specs.Comment.{comment_state, comment_content, declaration_error}
use Rattle.html5reading.specs.Doctype.{with_quirks, identifier_state, keyword_error}
use Rattle.html5reading.specs.ErrorText.{end_error_in}
use Rattle.html5reading.specs.Reference.{in_value, reference, late_tokens, opened_after}
use Rattle.html5reading.specs.Slice.{Late, tokens_of_late}
use Rattle.html5reading.specs.RawText.{raw_state, texts, told_after_less_than}
use Rattle.html5reading.specs.Start.{Raw, Place, RawPlace, DoctypePlace, Open, Rules, raw_of}
use Rattle.html5reading.specs.Start.Dashes.{NoDash}
use Rattle.html5reading.specs.Start.Raw.{Escaped, DoubleEscaped}
use Rattle.html5reading.specs.Start.Mode.{RawText, Cdata}
use Rattle.html5reading.specs.Start.RawPlace.{AfterLessThan, InEndName, AfterMark, AfterMarkAndDash, InSwitch}
use Rattle.html5reading.specs.Start.Place.{InName, BeforeAttribute, InAttributeName, AfterAttributeName, BeforeValue, InValue, AfterQuotedValue, AfterSolidus}
use Rattle.html5reading.specs.Start.DoctypePlace.{AfterWord, BeforeName, InDoctypeName, AfterName, AfterKeyword, BeforeIdentifier, InIdentifier, AfterIdentifier, BetweenIdentifiers, Skipped}
use Rattle.html5reading.specs.Start.Open.{Between, LessThan, LessThanSolidus, InTag, InRaw, InDeclaration, InComment, InBogusComment, InInstruction, InDoctype, InDoctypeKeyword, InCdata, InReference}

-- the state that the error of a tag without its end names
unfoldable pub state_at : Place → State
state_at InName = state.TagName
state_at BeforeAttribute = state.BeforeAttributeName
state_at InAttributeName = state.AttributeName
state_at AfterAttributeName = state.AfterAttributeName
state_at BeforeValue = state.AttributeValue Unquoted
state_at (InValue kind) = state.AttributeValue kind
state_at AfterQuotedValue = state.AfterAttributeValueQuoted
state_at AfterSolidus = state.SelfClosingStartTag

-- the state that the error of a doctype without its end names
unfoldable pub doctype_state_at : DoctypePlace → State
doctype_state_at AfterWord = state.Doctype
doctype_state_at BeforeName = state.BeforeDoctypeName
doctype_state_at InDoctypeName = state.DoctypeName
doctype_state_at AfterName = state.AfterDoctypeName
doctype_state_at (AfterKeyword kind) = state.AfterDoctypeKeyword kind
doctype_state_at (BeforeIdentifier kind) = state.BeforeDoctypeIdentifier kind
doctype_state_at (InIdentifier quotes kind) = identifier_state quotes kind
doctype_state_at (AfterIdentifier kind) = state.AfterDoctypeIdentifier kind
doctype_state_at BetweenIdentifiers = state.BetweenDoctypePublicAndSystemIdentifiers
doctype_state_at Skipped = state.BogusDoctype

-- "Character reference state", "Markup declaration open state" and "After DOCTYPE name state", at the end: what the end decides
-- of a reference or of a keyword, which is sent first
unfoldable pub late_at_end_of : Rules → Open → List Late
late_at_end_of rules (InReference stand held) = late_tokens stand (reference rules (in_value stand) held None) held
late_at_end_of rules (InDeclaration held) = declaration_error rules.exact held
late_at_end_of rules (InDoctypeKeyword held d) = keyword_error rules.exact held
late_at_end_of rules opened = []

-- what is open then
unfoldable pub open_at_end_of : Rules → Open → Open
open_at_end_of rules (InReference stand held) = opened_after stand (reference rules (in_value stand) held None) held
open_at_end_of rules (InDeclaration held) = InBogusComment held
open_at_end_of rules (InDoctypeKeyword held d) = InDoctype Skipped (with_quirks d)
open_at_end_of rules opened = opened

-- "Script data escaped state" and "Script data double escaped state", at the end: only there the end is an error in raw text
unfoldable pub raw_end_error : Bool → Raw → List Told
raw_end_error exact (Escaped dashes) = end_error_in exact (raw_state (Escaped dashes)) ∷ []
raw_end_error exact (DoubleEscaped dashes) = end_error_in exact (raw_state (DoubleEscaped dashes)) ∷ []
raw_end_error exact other = []

-- "RCDATA less-than sign state", the end tag name states and the escape states, at the end: the held characters there are text,
-- and come first. After `<` and letters the error names double-escaped script data.
unfoldable pub told_at_raw_end : Bool → RawPlace → List Told
told_at_raw_end exact (AfterLessThan kind) = told_after_less_than kind ++ raw_end_error exact (raw_of kind)
told_at_raw_end exact (InEndName kind letters) = texts (less_than ∷ solidus ∷ letters) ++ raw_end_error exact (raw_of kind)
told_at_raw_end exact AfterMark = []
told_at_raw_end exact AfterMarkAndDash = []
told_at_raw_end exact (InSwitch kind letters) = raw_end_error exact (DoubleEscaped NoDash)

-- "DOCTYPE state" to "Bogus DOCTYPE state", at the end: a doctype without its end is sent, and that is an error with quirks,
-- except where its rest is skipped
unfoldable pub told_at_doctype_end : Bool → DoctypePlace → DoctypeOf → List Told
told_at_doctype_end exact Skipped d = Doctype d ∷ []
told_at_doctype_end exact place d = end_error_in exact (doctype_state_at place) ∷ Doctype (with_quirks d) ∷ []

-- each state at the end: what the end tells of the open item. A tag without its end is an error, and is not sent.
unfoldable pub told_at_end_of : Bool → Open → List Told
told_at_end_of exact (Between (RawText raw name)) = raw_end_error exact raw ++ End ∷ []
told_at_end_of exact (Between Cdata) = end_error_in exact state.CdataSection ∷ End ∷ []
told_at_end_of exact (Between mode) = End ∷ []
told_at_end_of exact LessThan = end_error_in exact state.TagOpen ∷ Text (codes "<") ∷ End ∷ []
told_at_end_of exact LessThanSolidus = end_error_in exact state.EndTagOpen ∷ Text (codes "<") ∷ Text (codes "/") ∷ End ∷ []
told_at_end_of exact (InTag place tag) = end_error_in exact (state_at place) ∷ End ∷ []
told_at_end_of exact (InRaw place name) = told_at_raw_end exact place ++ End ∷ []
told_at_end_of exact (InDeclaration held) = []
told_at_end_of exact (InComment text) = end_error_in exact (comment_state state.CommentEnd text) ∷ Comment (comment_content text) ∷ End ∷ []
told_at_end_of exact (InBogusComment text) = Comment text ∷ End ∷ []
told_at_end_of exact (InInstruction text) = end_error_in exact state.ProcessingInstruction ∷ Instruction text ∷ End ∷ []
told_at_end_of exact (InDoctype place d) = told_at_doctype_end exact place d ++ End ∷ []
told_at_end_of exact (InDoctypeKeyword held d) = []
told_at_end_of exact (InCdata held) = texts held ++ end_error_in exact state.CdataSection ∷ End ∷ []
told_at_end_of exact (InReference stand held) = []

-- all that the end tells: what it decides, and then what it tells of the item that is still open
abbrev pub tokens_at_end : Rules → Open → List Told
tokens_at_end rules opened = tokens_of_late (late_at_end_of rules opened) ++ told_at_end_of rules.exact (open_at_end_of rules opened)
