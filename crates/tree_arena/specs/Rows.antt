-- The nodes of an arena, as the rows of the definition.
use Rattle.std.specs.Prelude.{◌≡◌, ℕ, zero, suc, ◌<◌, List, [], ◌∷◌, length, map, reverse, option_map, string_bytes}
use Rattle.markup5ever.specs.Names.{attribute_of}
use Rattle.tree_construction.specs.Document.{Row, What, applied, new_row}
use Rattle.tree_construction.specs.Document.What.{Document as DocumentRow, Element as ElementRow, TemplateContents as ContentsRow, Comment as CommentRow}
use Rattle.tree_construction.specs.Page.Edit.{MakeContents}
use Rattle.tree_arena.specs.Children.{children_of, number}
use Rattle.tree_arena.specs.declared.row.Node.{Node}
use Rattle.tree_arena.specs.declared.row.NodeKind.{NodeKind}
use Rattle.tree_arena.specs.declared.row.NodeKind.TheVariants.{Document, Element, TemplateContents, Comment}

abbrev pub what_of : {Z : Type 0} → NodeKind Z → What
what_of Document = DocumentRow
what_of (Element namespace name attributes) = ElementRow namespace (string_bytes name) (map attribute_of attributes.items)
what_of TemplateContents = ContentsRow
what_of (Comment text) = CommentRow (string_bytes text)

-- the number of the node at an index
abbrev pub number_at : ℕ → ℕ
number_at zero = 0
number_at (suc i) = suc (suc (suc i))

-- a row without its number
abbrev pub plain_row : {Z : Type 0} → Node Z → Row
plain_row node = record {
  node = 0;
  what = what_of node.what;
  parent = option_map number node.parent;
  contents = option_map number node.contents;
  children = children_of node.children.items;
}

abbrev pub with_number : ℕ → Row → Row
with_number n r = record r { node = n }

-- rows with their numbers, the last first
unfoldable pub numbered : List Row → List Row
numbered [] = []
numbered (r ∷ rows) = with_number (number_at (length rows)) r ∷ numbered rows

-- the rows of nodes that are kept in order
abbrev pub rows_of : {Z : Type 0} → List (Node Z) → List Row
rows_of nodes = numbered (reverse (map plain_row nodes))

-- the node of a number stands at an index
pub record IsAt (n at count : ℕ) : Type 0 where
  pub within : at < count
  pub number : number_at at ≡ n

-- no node has a number
pub record IsAbsent (n count : ℕ) : Type 0 where
  pub other : (k : ℕ) → k < count → number_at k ≡ n → ⊥

-- a node is made, with the next number
pub record IsMade {Z : Type 0} (n : ℕ) (what : What) (before after : List (Node Z)) : Type 0 where
  pub number : n ≡ suc (suc (length before))
  pub rows : rows_of after ≡ new_row n what ∷ rows_of before
  pub count : length after ≡ suc (length before)

-- a template that was made last gets its contents
pub record HasContents {Z : Type 0} (template : ℕ) (before after : List (Node Z)) : Type 0 where
  pub number : template ≡ suc (length before)
  pub rows : rows_of after ≡ applied (MakeContents template (suc template)) (rows_of before)
  pub count : length after ≡ suc (length before)
