-- A page that is being built: the edits that make its document, and the open elements. What edits make is in Document. Tree construction is
-- defined by edits so that proofs can compare it with nesting, which makes some of the same (Lockstep), before any tree is looked at.
use Rattle.std.specs.Prelude.{ℕ, suc, List, [], ◌∷◌, map}
use Rattle.html5tree.specs.Items.{Attribute}

-- Nodes are numbered as they are made, from 1 on. 0 is the root, the `html` element of "Parsing HTML fragments".
pub data Edit : Type 0 where
  -- make an element
  Make : (n : ℕ) → (name : List ℕ) → List Attribute → Edit
  -- put a node after the last child of a parent; one that had a parent is moved
  Put : (parent n : ℕ) → Edit
  -- put a text after the last child of a parent
  PutText : (parent : ℕ) → List ℕ → Edit
  -- put a node, or a text, before a table, in the parent of that
  PutBefore : (table n : ℕ) → Edit
  PutTextBefore : (table : ℕ) → List ℕ → Edit
  -- move all children of a node to the end of another
  PutChildren : (source target : ℕ) → Edit

-- an element that was made
pub record Element : Type 0 where
  pub node : ℕ
  pub name : List ℕ
  pub attributes : List Attribute

-- the number of the next node; "the stack of open elements", the current node first, without the root; the edits so far, the last first
pub record Page : Type 0 where
  pub next : ℕ
  pub opened : List Element
  pub edits : List Edit

abbrev pub start_page : Page
start_page = record { next = 1; opened = []; edits = [] }

abbrev pub names : List Element → List (List ℕ)
names opened = map (λ e. e.name) opened

abbrev pub with_opened : Page → List Element → Page
with_opened page opened = record page { opened = opened }

abbrev pub current : List Element → ℕ
current [] = 0
current (e ∷ es) = e.node

abbrev pub made : Page → List ℕ → List Attribute → Element
made page name attributes = record { node = page.next; name = name; attributes = attributes }

-- "Insert an HTML element", in the current node
abbrev pub inserted : Page → List ℕ → List Attribute → Page
inserted page name attributes = record {
  next = suc page.next;
  opened = made page name attributes ∷ page.opened;
  edits = Put (current page.opened) page.next ∷ Make page.next name attributes ∷ page.edits;
}

-- "Insert a character", in the current node
abbrev pub texted : Page → List ℕ → Page
texted page text = record page { edits = PutText (current page.opened) text ∷ page.edits }

abbrev pub rest_of : List Element → List Element
rest_of [] = []
rest_of (e ∷ es) = es

abbrev pub popped : Page → Page
popped page = record page { opened = rest_of page.opened }
