-- The lines of nodes, by the rows that hold them.
use Rattle.std.proofs.Common.{◌≡◌, ℕ, suc, List, [], ◌++◌, length, map, refl, sym, ap, ◌∙◌}
use Rattle.std.specs.Prelude.{reverse}
use Rattle.std.proofs.lemmas.List.{reverse-reverse}
use Rattle.tree_arena.specs.declared.row.Child.{Child}
use Rattle.tree_arena.specs.Children.{child_of, children_of}
use Rattle.tree_construction.specs.Document.{Row, row_of}
use Rattle.tree_lines.specs.Lines.{children_lines, lines_within, node_lines, own_lines, tree_lines}

pub no_levels : (rows : List Row) (depth n : ℕ) → node_lines 0 rows depth n ≡ []
unfolding node_lines
no_levels rows depth n = refl

lines_of_level : (below depth : ℕ) (rows : List Row) (n : ℕ)
    → node_lines (suc below) rows depth n ≡ own_lines depth (row_of n rows).what ++ lines_within (node_lines below rows (suc depth)) (suc depth) (row_of n rows).contents (row_of n rows).children
unfolding node_lines
lines_of_level below depth rows n = refl

pub lines_of_node : (levels below depth inner : ℕ) (rows : List Row) (n : ℕ) (r : Row) → levels ≡ suc below → inner ≡ suc depth → row_of n rows ≡ r
    → node_lines levels rows depth n ≡ own_lines depth r.what ++ lines_within (node_lines below rows inner) inner r.contents r.children
lines_of_node levels below depth inner rows n r e f is =
    ap (λ k. node_lines k rows depth n) e
    ∙ (lines_of_level below depth rows n
    ∙ (ap (λ i. own_lines depth (row_of n rows).what ++ lines_within (node_lines below rows i) i (row_of n rows).contents (row_of n rows).children) (sym f)
    ∙ ap (λ (x : Row). own_lines depth x.what ++ lines_within (node_lines below rows inner) inner x.contents x.children) is))

pub lines_of_tree : (rows : List Row) (n : ℕ) (r : Row) → row_of n rows ≡ r → tree_lines rows n ≡ lines_within (node_lines (length rows) rows 0) 0 r.contents r.children
unfolding tree_lines
lines_of_tree rows n r is = ap (λ (x : Row). lines_within (node_lines (length rows) rows 0) 0 x.contents x.children) is

-- children are kept in order, and rows have the last first
pub lines_of_children : {Z : Type 0} (lines : ℕ → List ℕ) (depth : ℕ) (children : List (Child Z))
    → children_lines lines depth (reverse (children_of children)) ≡ children_lines lines depth (map child_of children)
lines_of_children lines depth children = ap (children_lines lines depth) (reverse-reverse (map child_of children))
