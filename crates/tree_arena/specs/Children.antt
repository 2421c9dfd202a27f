-- What stands in a node, in the words of the definition.
use Rattle.std.specs.Prelude.{◌≡◌, ℕ, ◌+◌, ◌<◌, ◌≤◌, Bool, true, false, Option, List, [], ◌∷◌, ◌++◌, length, take, drop, map, reverse, string_bytes, if◌then◌else◌}
use Rattle.tree_construction.specs.Document.{Child as DocumentChild, added, added_before, without_node, is_node, put_among}
use Rattle.tree_construction.specs.Document.Child.{Node as DocumentNode, Text as DocumentText, Doctype as DocumentDoctype}
use Rattle.tree_arena.specs.declared.node.NodeId.{NodeId}
use Rattle.tree_arena.specs.declared.row.Child.{Child}
use Rattle.tree_arena.specs.declared.row.Child.TheVariants.{Node, Text, Doctype}

abbrev pub child_of : {Z : Type 0} → Child Z → DocumentChild
child_of (Node id) = DocumentNode id.0
child_of (Text text) = DocumentText (string_bytes text)
child_of (Doctype name public_id system_id) = DocumentDoctype (string_bytes name) (string_bytes public_id) (string_bytes system_id)

-- children that are kept in order, the last first
abbrev pub children_of : {Z : Type 0} → List (Child Z) → List DocumentChild
children_of children = reverse (map child_of children)

abbrev pub number : NodeId → ℕ
number id = id.0

abbrev pub is_text : DocumentChild → Bool
is_text (DocumentText text) = true
is_text other = false

-- whether a node is among these
unfoldable pub has_node : ℕ → List DocumentChild → Bool
has_node n [] = false
has_node n (c ∷ children) = if is_node n c then true else has_node n children

-- with a child put in before the one at an index
abbrev pub put_in : {Z : Type 0} → ℕ → DocumentChild → List (Child Z) → List DocumentChild
put_in at child children = children_of (drop at children) ++ added child (children_of (take at children))

-- a node stands at an index, and not after it
pub record IsLastAt {Z : Type 0} (n : ℕ) (children : List (Child Z)) (at : ℕ) : Type 0 where
  pub within : at < length children
  pub before : (child : DocumentChild) → added_before n child (children_of children) ≡ put_in at child children
  pub without : without_node n (children_of children) ≡ children_of (drop (at + 1) children) ++ children_of (take at children)

-- a node stands nowhere
pub record IsNowhere {Z : Type 0} (n : ℕ) (children : List (Child Z)) : Type 0 where
  pub before : (child : DocumentChild) → added_before n child (children_of children) ≡ children_of children
  pub without : without_node n (children_of children) ≡ children_of children

-- what is put before a node, or after the last child, is put in at an index
pub record IsPlace {Z : Type 0} (before : Option ℕ) (children : List (Child Z)) (at : ℕ) : Type 0 where
  pub within : at ≤ length children
  pub puts : (child : DocumentChild) → put_among before child (children_of children) ≡ put_in at child children

-- what is put before a node is put nowhere
pub record IsNoPlace {Z : Type 0} (before : Option ℕ) (children : List (Child Z)) : Type 0 where
  pub puts : (child : DocumentChild) → put_among before child (children_of children) ≡ children_of children
