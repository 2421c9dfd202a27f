-- "Parse state", and "Creating and inserting nodes": what tree construction keeps, the lists that it keeps, and how it puts nodes and texts.
use Rattle.std.specs.Prelude.{ℕ, suc, Bool, true, false, not, List, [], ◌∷◌, ◌&&◌, ◌==◌, length, Option, Some, None, nat_le, if◌then◌else◌}
use Rattle.std.specs.Str.{bytes_eq}
use Rattle.html5tree.specs.declared.kinds.Kind.{Kind}
use Rattle.html5tree.specs.Names.{kind_of, is_table, is_implied, is_fostering}
use Rattle.html5tree.specs.Items.{Attribute}
use Rattle.html5tree.specs.Scopes.{top_of_kind}
use Rattle.html5tree.specs.Page.{Edit, Element, Page, current, made, popped, names, start_page}
use Rattle.html5tree.specs.Page.Edit.{Make, Put, PutText, PutBefore, PutTextBefore}

-- "The insertion mode". "In table text" is not one here, since a text is read whole.
pub data Mode : Type 0 where
  InBody InTable InCaption InColumnGroup InTableBody InRow InCell : Mode

-- an entry of "the list of active formatting elements"
pub data Entry : Type 0 where
  Marker : Entry
  Active : Element → Entry

pub record Parser : Type 0 where
  -- the document so far, and "the stack of open elements"
  pub page : Page
  -- "the list of active formatting elements", the last first
  pub formatting : List Entry
  pub mode : Mode
  -- "the form element pointer", the number of a node
  pub form : Option ℕ
  -- whether foster parenting is enabled
  pub fostering : Bool

-- "Parsing HTML fragments", with a `div` as the context element: no element is open but the root
abbrev pub start_parser : Parser
start_parser = record { page = start_page; formatting = []; mode = InBody; form = None; fostering = false }

abbrev pub on_page : (Page → Page) → Parser → Parser
on_page change p = record p { page = change p.page }

abbrev pub in_mode : Mode → Parser → Parser
in_mode mode p = record p { mode = mode }

-- ---- "The stack of open elements": nodes on it

unfoldable pub has_node : ℕ → List Element → Bool
has_node n [] = false
has_node n (e ∷ es) = if e.node == n then true else has_node n es

-- the elements inside a node, and those outside
unfoldable pub inside : ℕ → List Element → List Element
inside n [] = []
inside n (e ∷ es) = if e.node == n then [] else e ∷ inside n es

unfoldable pub outside : ℕ → List Element → List Element
outside n [] = []
outside n (e ∷ es) = if e.node == n then es else outside n es

unfoldable pub without_node : ℕ → List Element → List Element
without_node n [] = []
without_node n (e ∷ es) = if e.node == n then es else e ∷ without_node n es

-- whether one of these ends a scope, so that what is outside them isn't in it
unfoldable pub is_bounded : (Kind → Bool) → List Element → Bool
is_bounded ends [] = false
is_bounded ends (e ∷ es) = if ends (kind_of e.name) then true else is_bounded ends es

abbrev pub pop : Parser → Parser
pop p = on_page popped p

-- "Pop elements from the stack of open elements until an element has been popped" that passes
unfoldable pub popped_until : (List ℕ → Bool) → List Element → List Element
popped_until test [] = []
popped_until test (e ∷ es) = if test e.name then es else popped_until test es

-- "Generate implied end tags", except for some names
unfoldable pub implied_ended : (List ℕ → Bool) → List Element → List Element
implied_ended but [] = []
implied_ended but (e ∷ es) = if is_implied (kind_of e.name) && not (but e.name) then implied_ended but es else e ∷ es

-- ---- "The list of active formatting elements"

abbrev pub is_entry_of : ℕ → Entry → Bool
is_entry_of n Marker = false
is_entry_of n (Active e) = e.node == n

unfoldable pub has_entry : ℕ → List Entry → Bool
has_entry n [] = false
has_entry n (entry ∷ list) = if is_entry_of n entry then true else has_entry n list

unfoldable pub without_entry : ℕ → List Entry → List Entry
without_entry n [] = []
without_entry n (entry ∷ list) = if is_entry_of n entry then list else entry ∷ without_entry n list

-- the last entry, after the last marker, whose name passes
unfoldable pub last_named : (List ℕ → Bool) → List Entry → Option Element
last_named test [] = None
last_named test (Marker ∷ list) = None
last_named test (Active e ∷ list) = if test e.name then Some e else last_named test list

-- "the same tag name and attributes": the order of attributes does not matter, and no two of one element have one name
unfoldable pub is_one_of : List Attribute → Attribute → Bool
is_one_of [] a = false
is_one_of (b ∷ others) a = if bytes_eq a.name b.name && bytes_eq a.value b.value then true else is_one_of others a

unfoldable pub are_all_of : List Attribute → List Attribute → Bool
are_all_of [] others = true
are_all_of (a ∷ more) others = is_one_of others a && are_all_of more others

abbrev pub same_attributes : List Attribute → List Attribute → Bool
same_attributes more others = (length more == length others) && are_all_of more others

abbrev pub is_alike : Element → Element → Bool
is_alike a b = bytes_eq a.name b.name && same_attributes a.attributes b.attributes

-- how many entries after the last marker are alike
unfoldable pub count_alike : Element → List Entry → ℕ
count_alike e [] = 0
count_alike e (Marker ∷ list) = 0
count_alike e (Active other ∷ list) = if is_alike other e then suc (count_alike e list) else count_alike e list

-- without the earliest of them
unfoldable pub without_earliest : Element → List Entry → List Entry
without_earliest e [] = []
without_earliest e (Marker ∷ list) = Marker ∷ list
without_earliest e (Active other ∷ list) = if is_alike other e && (count_alike e list == 0) then list else Active other ∷ without_earliest e list

-- "Push onto the list of active formatting elements", with the Noah's Ark clause: three alike are enough
unfoldable pub pushed : Element → List Entry → List Entry
pushed e list = Active e ∷ (if nat_le 3 (count_alike e list) then without_earliest e list else list)

-- "Clear the list of active formatting elements up to the last marker"
unfoldable pub cleared : List Entry → List Entry
cleared [] = []
cleared (Marker ∷ list) = list
cleared (Active e ∷ list) = cleared list

abbrev pub with_marker : Parser → Parser
with_marker p = record p { formatting = Marker ∷ p.formatting }

-- ---- "The appropriate place for inserting a node"

-- "Last table": it has a parent, since no script takes it away
unfoldable pub last_table : List Element → ℕ
last_table [] = 0
last_table (e ∷ es) = if is_table (kind_of e.name) then e.node else last_table es

-- whether what is inserted in the first of these elements goes before the last table
abbrev pub is_fostered : Parser → List Element → Bool
is_fostered p target = p.fostering && top_of_kind is_fostering (names target)

abbrev pub put_in : Parser → List Element → ℕ → Edit
put_in p target n = if is_fostered p target then PutBefore (last_table p.page.opened) n else Put (current target) n

abbrev pub put_text : Parser → List ℕ → Edit
put_text p text = if is_fostered p p.page.opened then PutTextBefore (last_table p.page.opened) text else PutText (current p.page.opened) text

-- "Insert an HTML element"
abbrev pub insert : Parser → List ℕ → List Attribute → Parser
insert p name attributes = record p {
  page = record {
    next = suc p.page.next;
    opened = made p.page name attributes ∷ p.page.opened;
    edits = put_in p p.page.opened p.page.next ∷ Make p.page.next name attributes ∷ p.page.edits;
  };
}

-- "Insert a character", of each of a text
abbrev pub insert_text : Parser → List ℕ → Parser
insert_text p text = record p { page = record p.page { edits = put_text p text ∷ p.page.edits } }

-- ---- "Reconstruct the active formatting elements"

-- the last entries of the list, up to a marker or an element that is open: these are opened again
unfoldable pub lost : List Element → List Entry → List Element
lost opened [] = []
lost opened (Marker ∷ list) = []
lost opened (Active e ∷ list) = if has_node e.node opened then [] else e ∷ lost opened list

-- and the entries before them
unfoldable pub kept : List Element → List Entry → List Entry
kept opened [] = []
kept opened (Marker ∷ list) = Marker ∷ list
kept opened (Active e ∷ list) = if has_node e.node opened then Active e ∷ list else kept opened list

abbrev pub reinserted : Parser → Element → Parser
reinserted p e = record (insert p e.name e.attributes) { formatting = Active (made p.page e.name e.attributes) ∷ p.formatting }

unfoldable pub reopened : Parser → List Element → List Entry → Parser
reopened p [] list = record p { formatting = list }
reopened p (e ∷ es) list = reinserted (reopened p es list) e

abbrev pub reconstructed : Parser → Parser
reconstructed p = reopened p (lost p.page.opened p.formatting) (kept p.page.opened p.formatting)
