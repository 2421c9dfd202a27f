-- The document that edits make: a row for each node, with its parent and its children; and the tree of these rows, without numbers.
use Rattle.std.specs.Prelude.{ℕ, suc, zero, Bool, true, false, not, List, [], ◌∷◌, ◌++◌, ◌==◌, ◌&&◌, length, map, Option, Some, None, if◌then◌else◌}
use Rattle.std.specs.Str.{bytes_eq}
use Rattle.markup5ever.specs.Names.{AttributeOf}
use Rattle.tree_construction.specs.declared.kinds.Namespace.{Namespace}
use Rattle.tree_construction.specs.Page.{Edit, Place}
use Rattle.tree_construction.specs.Page.Place.{LastChild, BeforeTable, BesideNode}
use Rattle.tree_construction.specs.Page.Edit.{MakeElement, MakeContents, MakeComment, PutDoctype, Put, PutText, Remove, MoveChildren, AddAttributes}

-- what a node is
pub data What : Type 0 where
  Document : What
  Element : Namespace → (name : List ℕ) → List AttributeOf → What
  TemplateContents : What
  Comment : List ℕ → What

-- what stands in a node: another node, a text or a doctype
pub data Child : Type 0 where
  Node : (n : ℕ) → Child
  Text : List ℕ → Child
  Doctype : (name public_id system_id : List ℕ) → Child

-- a node: the number of its parent, that of its template contents, and its children, the last first
pub record Row : Type 0 where
  pub node : ℕ
  pub what : What
  pub parent : Option ℕ
  pub contents : Option ℕ
  pub children : List Child

abbrev pub new_row : ℕ → What → Row
new_row n what = record { node = n; what = what; parent = None; contents = None; children = [] }

-- the document alone
abbrev pub first_rows : List Row
first_rows = new_row 0 Document ∷ []

-- ---- rows

unfoldable pub changed : ℕ → (Row → Row) → List Row → List Row
changed n change [] = []
changed n change (r ∷ rows) = if r.node == n then change r ∷ rows else r ∷ changed n change rows

unfoldable pub row_of : ℕ → List Row → Row
row_of n [] = new_row n TemplateContents
row_of n (r ∷ rows) = if r.node == n then r else row_of n rows

abbrev pub parent_of : ℕ → List Row → Option ℕ
parent_of n rows = (row_of n rows).parent

abbrev pub with_parent : Option ℕ → Row → Row
with_parent parent r = record r { parent = parent }

-- ---- children

-- after the last child; a text is joined with a text that is last there
abbrev pub added : Child → List Child → List Child
added (Text more) (Text text ∷ children) = Text (text ++ more) ∷ children
added child children = child ∷ children

abbrev pub is_node : ℕ → Child → Bool
is_node n (Node m) = m == n
is_node n other = false

unfoldable pub added_before : ℕ → Child → List Child → List Child
added_before n child [] = []
added_before n child (c ∷ children) = if is_node n c then c ∷ added child children else c ∷ added_before n child children

unfoldable pub without_node : ℕ → List Child → List Child
without_node n [] = []
without_node n (c ∷ children) = if is_node n c then children else c ∷ without_node n children

abbrev pub with_children : (List Child → List Child) → Row → Row
with_children change r = record r { children = change r.children }

-- ---- places

-- inside which node, and before which of its children, if not after the last
pub record Spot : Type 0 where
  pub parent : ℕ
  pub before : Option ℕ

abbrev pub last_in : ℕ → Spot
last_in parent = record { parent = parent; before = None }

abbrev pub spot_before : (table above : ℕ) → Option ℕ → Spot
spot_before table above None = last_in above
spot_before table above (Some parent) = record { parent = parent; before = Some table }

abbrev pub spot_beside : ℕ → Option ℕ → Spot
spot_beside n None = last_in n
spot_beside n (Some parent) = last_in parent

abbrev pub spot_of : Place → List Row → Spot
spot_of (LastChild parent) rows = last_in parent
spot_of (BeforeTable table above) rows = spot_before table above (parent_of table rows)
spot_of (BesideNode n) rows = spot_beside n (parent_of n rows)

abbrev pub put_among : Option ℕ → Child → List Child → List Child
put_among None child children = added child children
put_among (Some n) child children = added_before n child children

abbrev pub put_at : Spot → Child → List Row → List Row
put_at spot child rows = changed spot.parent (with_children (put_among spot.before child)) rows

abbrev pub put_node : Spot → ℕ → List Row → List Row
put_node spot n rows = put_at spot (Node n) (changed n (with_parent (Some spot.parent)) rows)

-- ---- edits

abbrev pub removed_from : Option ℕ → ℕ → List Row → List Row
removed_from None n rows = rows
removed_from (Some parent) n rows = changed parent (with_children (without_node n)) (changed n (with_parent None) rows)

abbrev pub is_child_of : ℕ → Option ℕ → Bool
is_child_of parent None = false
is_child_of parent (Some n) = n == parent

abbrev pub moved : (source target : ℕ) → Row → Row
moved source target r = if is_child_of source r.parent then record r { parent = Some target } else r

abbrev pub children_moved : (source target : ℕ) → List Child → List Row → List Row
children_moved source target children rows =
    map (moved source target) (changed target (with_children (λ own. children)) (changed source (with_children (λ own. [])) rows))

-- the attributes that an element lacks
abbrev pub is_same_name : AttributeOf → AttributeOf → Bool
is_same_name a b = bytes_eq a.name.ns b.name.ns && bytes_eq a.name.local b.name.local

unfoldable pub has_one_like : AttributeOf → List AttributeOf → Bool
has_one_like a [] = false
has_one_like a (b ∷ others) = if is_same_name a b then true else has_one_like a others

unfoldable pub lacking : List AttributeOf → List AttributeOf → List AttributeOf
lacking own [] = []
lacking own (a ∷ more) = if has_one_like a own then lacking own more else a ∷ lacking own more

abbrev pub with_attributes : List AttributeOf → What → What
with_attributes more (Element namespace name own) = Element namespace name (own ++ lacking own more)
with_attributes more what = what

abbrev pub applied : Edit → List Row → List Row
applied (MakeElement n namespace name attributes) rows = new_row n (Element namespace name attributes) ∷ rows
applied (MakeContents template n) rows = new_row n TemplateContents ∷ changed template (λ r. record r { contents = Some n }) rows
applied (MakeComment n text) rows = new_row n (Comment text) ∷ rows
applied (PutDoctype name public_id system_id) rows = changed 0 (with_children (added (Doctype name public_id system_id))) rows
applied (Put place n) rows = put_node (spot_of place rows) n rows
applied (PutText place text) rows = put_at (spot_of place rows) (Text text) rows
applied (Remove n) rows = removed_from (parent_of n rows) n rows
applied (MoveChildren source target) rows = children_moved source target (row_of source rows).children rows
applied (AddAttributes n attributes) rows = changed n (λ r. record r { what = with_attributes attributes r.what }) rows
-- the others change no tree
applied other rows = rows

-- what edits make, the last one first
unfoldable pub built : List Edit → List Row
built [] = first_rows
built (edit ∷ edits) = applied edit (built edits)

-- ---- trees

-- The nodes that stand side by side in one place: none, or some and a last one. A template has its contents in place of children.
pub data Tree : Type 0 where
  Nothing : Tree
  ElementNode : (before : Tree) → Namespace → (name : List ℕ) → List AttributeOf → (children : Tree) → Tree
  TemplateNode : (before : Tree) → List AttributeOf → (contents : Tree) → Tree
  TextNode : (before : Tree) → List ℕ → Tree
  CommentNode : (before : Tree) → List ℕ → Tree
  DoctypeNode : (before : Tree) → (name public_id system_id : List ℕ) → Tree

abbrev pub element_node : Tree → Namespace → List ℕ → List AttributeOf → ℕ → Option ℕ → (ℕ → Tree) → Tree
element_node before namespace name attributes n None tree_in = ElementNode before namespace name attributes (tree_in n)
element_node before namespace name attributes n (Some contents) tree_in = TemplateNode before attributes (tree_in contents)

abbrev pub node_of : Tree → What → ℕ → Option ℕ → (ℕ → Tree) → Tree
node_of before (Element namespace name attributes) n contents tree_in = element_node before namespace name attributes n contents tree_in
node_of before (Comment text) n contents tree_in = CommentNode before text
node_of before other n contents tree_in = before

-- Each child was put by an edit of its own, so a depth of as many as there are edits is enough.
unfoldable pub tree_from : (depth : ℕ) → List Row → List Child → Tree
tree_from zero rows children = Nothing
tree_from (suc depth) rows [] = Nothing
tree_from (suc depth) rows (Node n ∷ children) =
    let r : Row = row_of n rows in
    node_of (tree_from depth rows children) r.what n r.contents (λ m. tree_from depth rows (row_of m rows).children)
tree_from (suc depth) rows (Text text ∷ children) = TextNode (tree_from depth rows children) text
tree_from (suc depth) rows (Doctype name public_id system_id ∷ children) =
    DoctypeNode (tree_from depth rows children) name public_id system_id

-- what stands in a node after edits: 0 is the document, 3 the root element of a fragment
abbrev pub tree_in : ℕ → List Edit → Tree
tree_in n edits = let rows : List Row = built edits in tree_from (suc (length edits)) rows (row_of n rows).children
