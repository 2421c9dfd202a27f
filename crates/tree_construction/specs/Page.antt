-- A page that is being built: the edits that make its document, and "the stack of open elements". What edits make is in Document. Tree
-- construction is said by edits, so that a builder can be compared with it before any tree is looked at.
use Rattle.std.specs.Prelude.{ℕ, suc, Bool, true, false, List, [], ◌∷◌, ◌==◌, Option, Some, None, if◌then◌else◌}
use Rattle.std.specs.Str.{bytes_eq}
use Rattle.markup5ever.specs.Names.{AttributeOf}
use Rattle.tree_construction.specs.Names.{namespace_of, is_html, is_body, is_template, is_table}
use Rattle.tree_construction.specs.Adjusting.{adjusted_attributes}
use Rattle.tree_construction.specs.declared.kinds.Namespace.{Namespace}
use Rattle.tree_construction.specs.declared.kinds.Kind.{Kind}
use Rattle.tree_construction.specs.declared.modes.QuirksMode.{QuirksMode}
use Rattle.tree_construction.specs.declared.mistakes.Mistake.{Mistake}

-- where a node or a text is put
pub data Place : Type 0 where
  -- after the last child of a node
  LastChild : (parent : ℕ) → Place
  -- "foster parenting": immediately before a table, if that has a parent, or else after the last child of the node above it on the stack
  BeforeTable : (table above : ℕ) → Place
  -- after the last child of the parent of a node: only with a limit of the depth
  BesideNode : (n : ℕ) → Place

-- Nodes are numbered as they are made. 0 is the document, 1 the context element of a fragment, 2 the form that this stands in; what is made
-- has numbers from 3 on. The template contents of a template are a node of their own, with the number after that of the template.
pub data Edit : Type 0 where
  -- "create an element"
  MakeElement : (n : ℕ) → Namespace → (name : List ℕ) → List AttributeOf → Edit
  -- the template contents of an element that was just made
  MakeContents : (template n : ℕ) → Edit
  MakeComment : (n : ℕ) → List ℕ → Edit
  -- append a doctype to the document, with its name, public identifier and system identifier: empty where they are missing
  PutDoctype : (name public_id system_id : List ℕ) → Edit
  -- put a node that has no parent
  Put : Place → (n : ℕ) → Edit
  -- put a text; it is joined with a text that stands straight before the place
  PutText : Place → List ℕ → Edit
  -- take a node out of its parent
  Remove : (n : ℕ) → Edit
  -- move all children of a node to another, in their order
  MoveChildren : (source target : ℕ) → Edit
  -- add to an element the attributes of a token that it doesn't have yet
  AddAttributes : (n : ℕ) → List AttributeOf → Edit
  SetQuirksMode : QuirksMode → Edit
  -- set a script's "already started" flag
  MarkStarted : (n : ℕ) → Edit
  -- "reset the form owner": associate an element with a form, if the place where it is put is in the form's tree
  AssociateForm : (n form : ℕ) → Place → Edit
  -- an element leaves the stack of open elements
  Pop : (n : ℕ) → Edit
  ParseError : Mistake → Edit

-- an element on the stack of open elements
pub record Open : Type 0 where
  pub node : ℕ
  pub kind : Kind
  pub name : List ℕ

-- the number of the next node; the stack of open elements, the current node first; the edits so far, the last first
pub record Page : Type 0 where
  pub next : ℕ
  pub opened : List Open
  pub edits : List Edit

abbrev pub edited : Edit → Page → Page
edited edit page = record page { edits = edit ∷ page.edits }

abbrev pub with_opened : List Open → Page → Page
with_opened opened page = record page { opened = opened }

-- ---- elements on the stack

-- an HTML element of a name, or of a kind; or a node
abbrev pub has_name : List ℕ → Open → Bool
has_name name e = if is_html e.kind then bytes_eq e.name name else false

abbrev pub has_kind : (Kind → Bool) → Open → Bool
has_kind test e = test e.kind

abbrev pub has_number : ℕ → Open → Bool
has_number n e = e.node == n

-- whether the current node passes
abbrev pub current_passes : (Open → Bool) → List Open → Bool
current_passes test [] = false
current_passes test (e ∷ es) = test e

-- whether one of these passes
unfoldable pub has_open : (Open → Bool) → List Open → Bool
has_open test [] = false
has_open test (e ∷ es) = if test e then true else has_open test es

-- "Has an element in the specific scope": from the current node outwards, up to an element that ends the scope
unfoldable pub has_in_scope : (Kind → Bool) → (Open → Bool) → List Open → Bool
has_in_scope ends test [] = false
has_in_scope ends test (e ∷ es) = if test e then true else if ends e.kind then false else has_in_scope ends test es

-- the first element, the html element; and the second, if it is a body element
unfoldable pub first_open : List Open → ℕ
first_open [] = 0
first_open (e ∷ []) = e.node
first_open (e ∷ es) = first_open es

unfoldable pub second_body : List Open → Option ℕ
second_body [] = None
second_body (e ∷ []) = None
second_body (e ∷ html ∷ []) = if is_body e.kind then Some e.node else None
second_body (e ∷ es) = second_body es

-- ---- elements that leave the stack

-- the current node
abbrev pub left : Open → List Open → Page → Page
left e es page = record page { opened = es; edits = Pop e.node ∷ page.edits }

abbrev pub popped_of : List Open → Page → Page
popped_of [] page = page
popped_of (e ∷ es) page = left e es page

abbrev pub popped : Page → Page
popped page = popped_of page.opened page

-- "Pop elements from the stack of open elements until an element has been popped" that passes
unfoldable pub popped_until_in : (Open → Bool) → List Open → Page → Page
popped_until_in test [] page = page
popped_until_in test (e ∷ es) page = if test e then left e es page else popped_until_in test es (left e es page)

abbrev pub popped_until : (Open → Bool) → Page → Page
popped_until test page = popped_until_in test page.opened page

-- pop elements while the current node passes
unfoldable pub popped_while_in : (Open → Bool) → List Open → Page → Page
popped_while_in test [] page = page
popped_while_in test (e ∷ es) page = if test e then popped_while_in test es (left e es page) else page

abbrev pub popped_while : (Open → Bool) → Page → Page
popped_while test page = popped_while_in test page.opened page

-- all but the first element
unfoldable pub popped_to_first_in : List Open → Page → Page
popped_to_first_in [] page = page
popped_to_first_in (e ∷ []) page = page
popped_to_first_in (e ∷ es) page = popped_to_first_in es (left e es page)

abbrev pub popped_to_first : Page → Page
popped_to_first page = popped_to_first_in page.opened page

-- an element that may stand in the middle of the stack
unfoldable pub without_open : ℕ → List Open → List Open
without_open n [] = []
without_open n (e ∷ es) = if e.node == n then es else e ∷ without_open n es

abbrev pub removed_from_stack : ℕ → Page → Page
removed_from_stack n page = record page { opened = without_open n page.opened; edits = Pop n ∷ page.edits }

-- ---- "The appropriate place for inserting a node"

-- "if the adjusted insertion location is inside a template element, let it instead be inside the template element's template contents"
abbrev pub inside : Open → ℕ
inside e = if is_template e.kind then suc e.node else e.node

abbrev pub inside_first : List Open → ℕ
inside_first [] = 0
inside_first (e ∷ es) = inside e

-- foster parenting: by the last template or table on the stack, or else the first element; the number is of what stands inside the elements
-- that were passed
unfoldable pub foster_place_in : ℕ → List Open → Place
foster_place_in passed [] = LastChild passed
foster_place_in passed (e ∷ es) =
    if is_template e.kind then LastChild (inside e)
    else if is_table e.kind then BeforeTable e.node (inside_first es)
    else foster_place_in (inside e) es

abbrev pub foster_place : List Open → Place
foster_place opened = foster_place_in 0 opened

-- ---- "Create an element for a token", "insert a comment"

abbrev pub contents_of : Kind → ℕ → List Edit → List Edit
contents_of kind n edits = if is_template kind then MakeContents n (suc n) ∷ edits else edits

-- an element that isn't put anywhere yet
abbrev pub made : Kind → List ℕ → List AttributeOf → Page → Page
made kind name attributes page = record page {
  next = if is_template kind then suc (suc page.next) else suc page.next;
  edits = contents_of kind page.next (MakeElement page.next (namespace_of kind) name (adjusted_attributes (namespace_of kind) attributes) ∷ page.edits);
}

-- the element that was made of a page, on the stack
abbrev pub pushed : Kind → List ℕ → ℕ → Page → Page
pushed kind name n page = record page { opened = record { node = n; kind = kind; name = name } ∷ page.opened }

abbrev pub comment_put : Place → List ℕ → Page → Page
comment_put place text page = record page { next = suc page.next; edits = Put place page.next ∷ MakeComment page.next text ∷ page.edits }
