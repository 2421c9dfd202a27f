-- That a document is a tree, in words that contracts cite: parents after edits, descendants, and edits that keep a tree.
use Rattle.std.specs.Prelude.{◌≡◌, ℕ, ◌<◌, ◌≤◌, List, [], ◌∷◌, ◌==◌, Option, Some, None, if◌then◌else◌}
use Rattle.tree_construction.specs.Page.{Edit, Open, Place, inside}
use Rattle.tree_construction.specs.Page.Place.{LastChild, BeforeTable, BesideNode}
use Rattle.tree_construction.specs.Page.Edit.{MakeElement, MakeContents, MakeComment, PutDoctype, Put, PutText, Remove, MoveChildren, AddAttributes, SetQuirksMode, MarkStarted, AssociateForm, Pop, ParseError}

abbrev pub or_else : Option ℕ → ℕ → ℕ
or_else None n = n
or_else (Some m) n = m

-- into which node a place leads, by the parents that nodes have
abbrev pub parent_at : (ℕ → Option ℕ) → Place → ℕ
parent_at parent (LastChild n) = n
parent_at parent (BeforeTable table above) = or_else (parent table) above
parent_at parent (BesideNode n) = or_else (parent n) n

-- the children of a node got another parent
abbrev pub moved_to : (source target : ℕ) → Option ℕ → Option ℕ
moved_to source target None = None
moved_to source target (Some n) = if n == source then Some target else Some n

-- the parent of a node after edits; the last edit is the first of the list
unfoldable pub parent_after : List Edit → ℕ → Option ℕ
parent_after [] n = None
parent_after (Put place m ∷ before) n = if m == n then Some (parent_at (parent_after before) place) else parent_after before n
parent_after (Remove m ∷ before) n = if m == n then None else parent_after before n
parent_after (MoveChildren source target ∷ before) n = moved_to source target (parent_after before n)
parent_after (edit ∷ before) n = parent_after before n

-- the template whose contents a node is
unfoldable pub template_after : List Edit → ℕ → Option ℕ
template_after [] n = None
template_after (MakeContents template m ∷ before) n = if m == n then Some template else template_after before n
template_after (edit ∷ before) n = template_after before n

-- A node is within another if it is that node or a descendant. The contents of a template are within it, too. DOM, "host-including inclusive
-- ancestor".
pub data IsWithin (edits : List Edit) (outer : ℕ) : ℕ → Type 0 where
  Itself : IsWithin edits outer outer
  InParent : (n parent : ℕ) → parent_after edits n ≡ Some parent → IsWithin edits outer parent → IsWithin edits outer n
  InTemplate : (n template : ℕ) → template_after edits n ≡ Some template → IsWithin edits outer template → IsWithin edits outer n

abbrev pub IsOutside : List Edit → ℕ → ℕ → Type 0
IsOutside edits n m = IsWithin edits n m → ⊥

-- DOM, "ensure pre-insert validity": a node is put into neither itself nor a descendant. It has no parent until then, and was made
-- by an edit. Children move to no descendant of their parent.
abbrev pub KeepsTree : Edit → List Edit → Type 0
KeepsTree (MakeElement n namespace name attributes) before = Unit {0}
KeepsTree (MakeContents template n) before = IsOutside before n template
KeepsTree (MakeComment n text) before = Unit {0}
KeepsTree (PutDoctype name public_id system_id) before = Unit {0}
KeepsTree (Put place n) before = (3 ≤ n) × (parent_after before n ≡ None) × IsOutside before n (parent_at (parent_after before) place)
KeepsTree (PutText place text) before = Unit {0}
KeepsTree (Remove n) before = Unit {0}
KeepsTree (MoveChildren source target) before = IsOutside before source target
KeepsTree (AddAttributes n attributes) before = Unit {0}
KeepsTree (SetQuirksMode mode) before = Unit {0}
KeepsTree (MarkStarted n) before = Unit {0}
KeepsTree (AssociateForm n form place) before = Unit {0}
KeepsTree (Pop n) before = Unit {0}
KeepsTree (ParseError mistake) before = Unit {0}

-- each edit, after those before it
unfoldable pub KeepTree : List Edit → Type 0
KeepTree [] = Unit {0}
KeepTree (edit ∷ before) = KeepsTree edit before × KeepTree before

-- ---- the stack of open elements

-- these open elements, and the nodes that are there from the start, are neither a node nor a descendant of it
unfoldable pub AreOutside : List Edit → ℕ → List Open → Type 0
AreOutside edits n [] = (m : ℕ) → m < 3 → IsOutside edits n m
AreOutside edits n (e ∷ es) = IsOutside edits n e.node × IsOutside edits n (inside e) × AreOutside edits n es

-- The current node is the first of them. No outer one is the same element as one before it, or its descendant.
unfoldable pub AreNested : List Edit → List Open → Type 0
AreNested edits [] = Unit {0}
AreNested edits (e ∷ es) = AreOutside edits e.node es × AreNested edits es
