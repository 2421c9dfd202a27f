-- What holds between the parser and nesting after each item that fits: vocabulary of the proofs. In a host it is also what the law asks of the
-- parser before the items (Hosts).
use Rattle.std.specs.Prelude.{◌≡◌, ℕ, ◌<◌, Bool, true, false, not, List, [], ◌∷◌, ⊤, Option, Some, None, if◌then◌else◌}
use Rattle.html5tree.specs.declared.kinds.Kind.{Kind}
use Rattle.html5tree.specs.Names.{kind_of, is_formatting, has_marker, is_form, is_part, is_void}
use Rattle.html5tree.specs.Items.{Attribute, Item}
use Rattle.html5tree.specs.Items.Item.{StartTag, EndTag, Text}
use Rattle.html5tree.specs.Scopes.{kind_on_top}
use Rattle.html5tree.specs.Fitting.{holds_parts, holds, can_open}
use Rattle.html5tree.specs.Page.{Element, Page, inserted, names, popped, texted}
use Rattle.html5tree.specs.Parser.{Parser, Entry}
use Rattle.html5tree.specs.Parser.Entry.{Marker, Active}
use Rattle.html5tree.specs.Tables.{mode_of}

-- ---- nesting, by edits

abbrev pub placed : Bool → Page → List ℕ → List Attribute → Page
placed true page name attributes = popped (inserted page name attributes)
placed false page name attributes = inserted page name attributes

unfoldable pub nest : Page → Item → Page
nest page (StartTag name attributes) = placed (is_void (kind_of name)) page name attributes
nest page (EndTag name) = popped page
nest page (Text text) = texted page text

unfoldable pub nest_all : Page → List Item → Page
nest_all page [] = page
nest_all page (item ∷ items) = nest_all (nest page item) items

-- ---- what the parser keeps, after items that fit

-- the list of active formatting elements is some of the open formatting elements, and a marker for each open cell and caption, in order. So
-- nothing has to be reconstructed.
pub data IsWithin : List Entry → List Element → Type 0 where
  Done : IsWithin [] []
  Skip : {l : List Entry} {s : List Element} (e : Element) → has_marker (kind_of e.name) ≡ false → IsWithin l s → IsWithin l (e ∷ s)
  Keep : {l : List Entry} {s : List Element} (e : Element) → is_formatting (kind_of e.name) ≡ true → has_marker (kind_of e.name) ≡ false
      → IsWithin l s → IsWithin (Active e ∷ l) (e ∷ s)
  Mark : {l : List Entry} {s : List Element} (e : Element) → has_marker (kind_of e.name) ≡ true → IsWithin l s → IsWithin (Marker ∷ l) (e ∷ s)

-- inner elements were made later, and all before the next one
unfoldable pub AreNumbered : ℕ → List Element → Type 0
AreNumbered next [] = ⊤
AreNumbered next (e ∷ es) = (e.node < next) × AreNumbered e.node es

-- the open form
unfoldable pub form_of : List Element → Option ℕ
form_of [] = None
form_of (e ∷ es) = if is_form (kind_of e.name) then Some e.node else form_of es

abbrev pub can_hold : Kind → Kind → Bool
can_hold top kind = if holds_parts top then holds top kind else not (is_part kind)

pub record IsPlacedIn (e : Element) (es : List Element) : Type 0 where
  -- parts of tables stand in what holds them, and nothing else stands there
  pub in_parent : can_hold (kind_on_top (names es)) (kind_of e.name) ≡ true
  pub opens : can_open (kind_of e.name) ≡ true
  -- one form is open at most
  pub one_form : is_form (kind_of e.name) ≡ true → form_of es ≡ None

unfoldable pub ArePlaced : List Element → Type 0
ArePlaced [] = ⊤
ArePlaced (e ∷ es) = IsPlacedIn e es × ArePlaced es

pub record IsInOrder (l : List Entry) (page : Page) : Type 0 where
  pub within : IsWithin l page.opened
  pub numbered : AreNumbered page.next page.opened
  pub placed : ArePlaced page.opened

-- the parser, where the insertion mode and the form element pointer follow from the open elements
abbrev pub parser : Page → List Entry → Parser
parser page l = record { page = page; formatting = l; mode = mode_of (names page.opened); form = form_of page.opened; fostering = false }

pub record IsInStep (p : Parser) (page : Page) : Type 0 where
  pub formatting : List Entry
  pub is : p ≡ parser page formatting
  pub good : IsInOrder formatting page
