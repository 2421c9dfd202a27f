-- What is proved of tree construction, in words that contracts cite.
use Rattle.std.specs.Prelude.{◌≡◌, ℕ, suc, ◌<◌, Bool, true, false, List, [], ◌∷◌, ◌++◌}
use Rattle.html5ever_interface.specs.Token.{Reply, TagOf, Told}
use Rattle.html5ever_interface.specs.Token.Told.{Tag}
use Rattle.html5reading.specs.Reading.{open_after_reply}
use Rattle.tree_construction.specs.Construction.{is_foreign}
use Rattle.tree_construction.specs.declared.modes.Mode.{Mode}
use Rattle.tree_construction.specs.declared.modes.Mode.TheVariants.{InBody, InCaption, InCell, InRow, InTable, InTableBody}
use Rattle.tree_construction.specs.Page.{Edit, Place}
use Rattle.tree_construction.specs.Parser.{Parser}
use Rattle.tree_construction.specs.Text.{replied_by, taken_by}
use Rattle.tree_construction.specs.Page.Place.{LastChild, BeforeTable, BesideNode}
use Rattle.tree_construction.specs.Page.Edit.{MakeElement, MakeContents, MakeComment, PutDoctype, Put, PutText, Remove, MoveChildren, AddAttributes, SetQuirksMode, MarkStarted, AssociateForm, Pop, ParseError}

-- edits that others follow: the last stands first, so those before stand at the end
pub record Extends (before after : List Edit) : Type 0 where
  pub added : List Edit
  pub is : after ≡ added ++ before

-- ---- numbers of nodes

-- the number of the node that is made next: 0 to 2 are there from the start
unfoldable pub next_number : List Edit → ℕ
next_number [] = 3
next_number (MakeElement n namespace name attributes ∷ before) = suc n
next_number (MakeContents template n ∷ before) = suc n
next_number (MakeComment n text ∷ before) = suc n
next_number (edit ∷ before) = next_number before

-- a node that edits made, or that is there from the start
abbrev pub IsMade : List Edit → ℕ → Type 0
IsMade before n = n < next_number before

abbrev pub IsPlaceMade : List Edit → Place → Type 0
IsPlaceMade before (LastChild parent) = IsMade before parent
IsPlaceMade before (BeforeTable table above) = IsMade before table × IsMade before above
IsPlaceMade before (BesideNode n) = IsMade before n

-- An edit that makes a node gives it the next number. Any other names nodes that were made before.
abbrev pub IsOrderlyEdit : Edit → List Edit → Type 0
IsOrderlyEdit (MakeElement n namespace name attributes) before = n ≡ next_number before
IsOrderlyEdit (MakeContents template n) before = (n ≡ suc template) × (n ≡ next_number before)
IsOrderlyEdit (MakeComment n text) before = n ≡ next_number before
IsOrderlyEdit (PutDoctype name public_id system_id) before = Unit {0}
IsOrderlyEdit (Put place n) before = IsPlaceMade before place × IsMade before n
IsOrderlyEdit (PutText place text) before = IsPlaceMade before place
IsOrderlyEdit (Remove n) before = IsMade before n
IsOrderlyEdit (MoveChildren source target) before = IsMade before source × IsMade before target
IsOrderlyEdit (AddAttributes n attributes) before = IsMade before n
IsOrderlyEdit (SetQuirksMode mode) before = Unit {0}
IsOrderlyEdit (MarkStarted n) before = IsMade before n
IsOrderlyEdit (AssociateForm n form place) before = IsMade before n × IsMade before form × IsPlaceMade before place
IsOrderlyEdit (Pop n) before = IsMade before n
IsOrderlyEdit (ParseError mistake) before = Unit {0}

-- each edit is orderly, after those before it
unfoldable pub AreOrderly : List Edit → Type 0
AreOrderly [] = Unit {0}
AreOrderly (edit ∷ before) = IsOrderlyEdit edit before × AreOrderly before

-- ---- who asks as the parser does

-- a sink whose states have parsers: a message steps the parser, the reply makes the tokenizer go on as the parser's does, and the answer about
-- foreign content is the parser's
pub record AsksAsParser {S H : Type 0} (step : S → Told → ℕ → S) (reply : S → Told → ℕ → Reply H) (foreign : S → Bool) (parser : S → Parser) : Type 0 where
  pub steps : (s : S) (message : Told) (line : ℕ) → parser (step s message line) ≡ taken_by (parser s) message line
  pub replies : (s : S) (tag : TagOf) (line : ℕ) (last : List ℕ)
      → open_after_reply last (reply s (Tag tag) line) ≡ open_after_reply last (replied_by (parser s) (Tag tag) line)
  pub answers : (s : S) → foreign s ≡ is_foreign (parser s)

-- ---- replies by names alone

-- the insertion modes of a body outside templates, text and framesets
abbrev pub is_body_mode : Mode → Bool
is_body_mode InBody = true
is_body_mode InTable = true
is_body_mode InCaption = true
is_body_mode InTableBody = true
is_body_mode InRow = true
is_body_mode InCell = true
is_body_mode _ = false

-- the parser is in such a mode, its adjusted current node is an HTML element, and scripting is off
pub record IsInBody (p : Parser) : Type 0 where
  pub mode : is_body_mode p.mode ≡ true
  pub html : is_foreign p ≡ false
  pub without_scripting : p.options.scripting ≡ false
