-- Where the reading of a text starts, and what is open there.
use Rattle.std.specs.Prelude.{ℕ, Bool, true, false, List, [], length, Option, None, Some}
use Rattle.html5ever_interface.specs.Options.{OptionsOf}
use Rattle.html5ever_interface.specs.declared.interface.token.TagKind.{TagKind}
use Rattle.html5ever_interface.specs.Token.{DoctypeOf}
use Rattle.html5ever_interface.specs.declared.states.AttrValueKind.{AttrValueKind}
use Rattle.html5ever_interface.specs.declared.states.DoctypeIdKind.{DoctypeIdKind}
use Rattle.html5ever_interface.specs.declared.states.RawKind.{RawKind}
use Rattle.html5ever_interface.specs.declared.states.RawKind.TheVariants as raw_kind
use Rattle.html5ever_interface.specs.declared.states.ScriptEscapeKind.{ScriptEscapeKind}
use Rattle.html5ever_interface.specs.declared.states.ScriptEscapeKind.TheVariants as escape_kind
use Rattle.html5ever_interface.specs.declared.states.State.{State}
use Rattle.html5ever_interface.specs.declared.states.State.TheVariants as state
use Rattle.markup5ever.specs.NamedReferences.{NamedReference}
use Rattle.markup5ever.specs.Names.{AttributeOf}

-- "Script data escaped state", "Script data escaped dash state" and "Script data escaped dash dash state": how many dashes stand
-- directly before, of which two are counted
pub data Dashes : Type 0 where
  NoDash : Dashes
  OneDash : Dashes
  TwoDashes : Dashes

-- the kinds of raw text: "RCDATA state", "RAWTEXT state", "Script data state", "Script data escaped state" and "Script data
-- double escaped state"
pub data Raw : Type 0 where
  Rcdata : Raw
  Rawtext : Raw
  ScriptData : Raw
  -- script data after `<!--`
  Escaped : Dashes → Raw
  -- the same after a `<script`
  DoubleEscaped : Dashes → Raw

-- how the characters of the text are read between items: "Data state", "PLAINTEXT state", the states of raw text, and "CDATA
-- section state"
pub data Mode : Type 0 where
  Data : Mode
  Plain : Mode
  -- with the name whose end tag ends the text; it is empty if there is none
  RawText : Raw → List ℕ → Mode
  -- inside a CDATA section of which no text is held
  Cdata : Mode

-- a tag that was begun, with its texts in bytes
pub record OpenTag : Type 0 where
  pub kind : TagKind
  -- the name so far, in lower case
  pub name : List ℕ
  -- the attributes before the last one, without those whose name came before
  pub attributes : List AttributeOf
  pub had_duplicate_attributes : Bool
  -- the last attribute so far: its name, which is empty if there is none, and its value
  pub last_name : List ℕ
  pub last_value : List ℕ

-- a place in a tag: "Tag name state" to "Self-closing start tag state"
pub data Place : Type 0 where
  InName : Place
  BeforeAttribute : Place
  InAttributeName : Place
  -- in white space after an attribute's name
  AfterAttributeName : Place
  -- after `=`
  BeforeValue : Place
  InValue : AttrValueKind → Place
  -- directly after the closing quote of a value
  AfterQuotedValue : Place
  -- directly after a `/` outside a value
  AfterSolidus : Place

-- a place in raw text where something is open: the less-than sign states, the end tag name states, and those of `<!--` and
-- `<script`
pub data RawPlace : Type 0 where
  -- after `<`
  AfterLessThan : RawKind → RawPlace
  -- after `</` and letters, which may be the name of an end tag
  InEndName : RawKind → List ℕ → RawPlace
  -- after the `<!` of script data, and after its `<!-`
  AfterMark : RawPlace
  AfterMarkAndDash : RawPlace
  -- after `<` and letters in escaped script data, and after `</` and letters in double-escaped script data
  InSwitch : ScriptEscapeKind → List ℕ → RawPlace

-- the quotes of an identifier
pub data Quotes : Type 0 where
  DoubleQuotes : Quotes
  SingleQuotes : Quotes

-- a place in a doctype: "DOCTYPE state" to "Bogus DOCTYPE state"
pub data DoctypePlace : Type 0 where
  -- directly after `doctype`
  AfterWord : DoctypePlace
  -- in white space before the name
  BeforeName : DoctypePlace
  InDoctypeName : DoctypePlace
  -- in white space after the name
  AfterName : DoctypePlace
  -- directly after `public` or `system`
  AfterKeyword : DoctypeIdKind → DoctypePlace
  -- in white space after that
  BeforeIdentifier : DoctypeIdKind → DoctypePlace
  InIdentifier : Quotes → DoctypeIdKind → DoctypePlace
  -- directly after an identifier, and after that of the system also in white space
  AfterIdentifier : DoctypeIdKind → DoctypePlace
  -- in white space after a public identifier
  BetweenIdentifiers : DoctypePlace
  -- in what is skipped up to `>`
  Skipped : DoctypePlace

-- where a character reference stands: the return state of the standard
pub data Stand : Type 0 where
  InText : Mode → Stand
  -- in a value
  InAttribute : AttrValueKind → OpenTag → Stand

-- what is open at the end of a text: the state that was reached, with what was begun there
pub data Open : Type 0 where
  -- nothing
  Between : Mode → Open
  -- `<` in the mode Data
  LessThan : Open
  -- `</` in the mode Data
  LessThanSolidus : Open
  InTag : Place → OpenTag → Open
  -- in raw text, with the name whose end tag ends it
  InRaw : RawPlace → List ℕ → Open
  -- after `<!`, with the characters that may begin a keyword
  InDeclaration : List ℕ → Open
  -- in a comment, with its text in bytes, and in a bogus one
  InComment : List ℕ → Open
  InBogusComment : List ℕ → Open
  -- in a processing instruction, with its content so far, in bytes
  InInstruction : List ℕ → Open
  -- in a doctype, with what it has so far
  InDoctype : DoctypePlace → DoctypeOf → Open
  -- after a doctype's name and white space, with the characters, at least one, that may begin `public` or `system`
  InDoctypeKeyword : List ℕ → DoctypeOf → Open
  -- inside a CDATA section, with its characters that are not sent yet: there is one, and its brackets belong to them
  InCdata : List ℕ → Open
  -- a reference that is not decided, with the characters after its `&`
  InReference : Stand → List ℕ → Open

-- whether nothing is open, so that the rest can be read anew
abbrev pub nothing_open : Open → Bool
nothing_open (Between mode) = true
nothing_open other = false

-- whether a reference or a keyword is not decided
abbrev pub is_undecided_open : Open → Bool
is_undecided_open (InReference stand held) = true
is_undecided_open (InDeclaration held) = true
is_undecided_open (InDoctypeKeyword held doctype) = true
is_undecided_open other = false

-- how many characters are held of a reference, or of a keyword
abbrev pub held_len : Open → ℕ
held_len (InReference stand held) = length held
held_len (InDeclaration held) = length held
held_len (InDoctypeKeyword held doctype) = length held
held_len other = 0

-- what a reading goes by: whether errors are exact, and the table of named references
pub record Rules : Type 0 where
  pub exact : Bool
  pub references : List NamedReference

-- how the characters of a stream come in
pub record Input : Type 0 where
  -- the line that was reached, counted from 1
  pub line : ℕ
  -- a CR stands before the text, so a LF that comes first belongs to its line break
  pub after_carriage_return : Bool
  -- U+FEFF is dropped where it comes first
  pub drops_byte_order_mark : Bool

pub record Start : Type 0 where
  pub opened : Open
  -- the name of the last start tag, which is empty if there is none
  pub last_start_tag : List ℕ
  pub input : Input

-- a tag of which nothing was read
abbrev pub begun : TagKind → OpenTag
begun kind = record { kind = kind; name = []; attributes = []; had_duplicate_attributes = false; last_name = []; last_value = [] }

-- script data after `<!--`, with the dashes directly before
abbrev pub escaped : ScriptEscapeKind → Dashes → Raw
escaped escape_kind.Escaped dashes = Escaped dashes
escaped escape_kind.DoubleEscaped dashes = DoubleEscaped dashes

-- raw text of a kind, from its start on
abbrev pub raw_of : RawKind → Raw
raw_of raw_kind.Rcdata = Rcdata
raw_of raw_kind.Rawtext = Rawtext
raw_of raw_kind.ScriptData = ScriptData
raw_of (raw_kind.ScriptDataEscaped kind) = escaped kind NoDash

-- the mode that a stream starts in: without a choice that is Data
abbrev pub initial_mode : Option State → List ℕ → Mode
initial_mode (Some state.Plaintext) last_start_tag = Plain
initial_mode (Some (state.RawData kind)) last_start_tag = RawText (raw_of kind) last_start_tag
initial_mode (Some state.CdataSection) last_start_tag = Cdata
initial_mode _ last_start_tag = Data

-- the name that the options give the last start tag
abbrev pub initial_name : Option (List ℕ) → List ℕ
initial_name None = []
initial_name (Some name) = name

-- the start of a stream
abbrev pub start_of : OptionsOf → Start
start_of opts = record {
  opened = Between (initial_mode opts.initial_state (initial_name opts.last_start_tag_name));
  last_start_tag = initial_name opts.last_start_tag_name;
  input = record { line = 1; after_carriage_return = false; drops_byte_order_mark = opts.discard_bom };
}
