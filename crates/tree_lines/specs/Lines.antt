-- A document as lines, in the format of the public tests of tree construction: one for each node and each attribute, the deeper the further in.
use Rattle.std.specs.Prelude.{ℕ, zero, suc, Bool, true, false, List, [], ◌∷◌, ◌++◌, ◌==◌, Option, Some, None, codes, length, ltb, reverse, if◌then◌else◌}
use Rattle.markup5ever.specs.Names.{AttributeOf}
use Rattle.tree_construction.specs.declared.kinds.Namespace.{Namespace}
use Rattle.tree_construction.specs.declared.kinds.Namespace.TheVariants.{Html, MathMl, Svg}
use Rattle.tree_construction.specs.Document.{Child, Row, What, row_of}
use Rattle.tree_construction.specs.Document.Child.{Node, Text, Doctype}
use Rattle.tree_construction.specs.Document.What.{Document, Element, TemplateContents, Comment}

-- two spaces for each level above
unfoldable pub spaces : (depth : ℕ) → List ℕ
spaces zero = []
spaces (suc depth) = codes "  " ++ spaces depth

abbrev pub line : (depth : ℕ) → List ℕ → List ℕ
line depth text = codes "| " ++ spaces depth ++ text ++ codes "\n"

abbrev pub quoted : List ℕ → List ℕ
quoted text = codes "\"" ++ text ++ codes "\""

-- ---- attributes

-- the name that is shown: the prefix, if there is one, a space and the local name
abbrev pub with_prefix : Option (List ℕ) → List ℕ → List ℕ
with_prefix None local = local
with_prefix (Some prefix) local = prefix ++ codes " " ++ local

abbrev pub shown_name : AttributeOf → List ℕ
shown_name a = with_prefix a.name.prefix a.name.local

-- Whether a name comes before another in the order of bytes: it has the lower byte where they first differ, or the other goes on where it ends.
-- The public tests go by UTF-16, which differs only where names have characters past U+FFFF.
unfoldable pub comes_before : List ℕ → List ℕ → Bool
comes_before name [] = false
comes_before [] (y ∷ other) = true
comes_before (x ∷ name) (y ∷ other) = if x == y then comes_before name other else ltb x y

-- An attribute is put before the first whose name comes after its own.
unfoldable pub put_in_order : AttributeOf → List AttributeOf → List AttributeOf
put_in_order a [] = a ∷ []
put_in_order a (b ∷ ordered) = if comes_before (shown_name a) (shown_name b) then a ∷ b ∷ ordered else b ∷ put_in_order a ordered

-- attributes in the order of their names: one after another is put among those that are in order
unfoldable pub in_order_with : (ordered : List AttributeOf) → List AttributeOf → List AttributeOf
in_order_with ordered [] = ordered
in_order_with ordered (a ∷ attributes) = in_order_with (put_in_order a ordered) attributes

abbrev pub in_order : List AttributeOf → List AttributeOf
in_order attributes = in_order_with [] attributes

abbrev pub attribute_line : (depth : ℕ) → AttributeOf → List ℕ
attribute_line depth a = line depth (shown_name a ++ codes "=" ++ quoted a.value)

unfoldable pub attribute_lines : (depth : ℕ) → List AttributeOf → List ℕ
attribute_lines depth [] = []
attribute_lines depth (a ∷ attributes) = attribute_line depth a ++ attribute_lines depth attributes

-- ---- nodes

abbrev pub namespace_text : Namespace → List ℕ
namespace_text Html = []
namespace_text MathMl = codes "math "
namespace_text Svg = codes "svg "

abbrev pub element_text : Namespace → (name : List ℕ) → List ℕ
element_text namespace name = codes "<" ++ namespace_text namespace ++ name ++ codes ">"

abbrev pub comment_text : List ℕ → List ℕ
comment_text text = codes "<!-- " ++ text ++ codes " -->"

-- the identifiers are shown if one of them is not empty
abbrev pub identifiers_text : (public_id system_id : List ℕ) → List ℕ
identifiers_text [] [] = []
identifiers_text public_id system_id = codes " " ++ quoted public_id ++ codes " " ++ quoted system_id

abbrev pub doctype_text : (name public_id system_id : List ℕ) → List ℕ
doctype_text name public_id system_id = codes "<!DOCTYPE " ++ name ++ identifiers_text public_id system_id ++ codes ">"

-- the lines of a node without what stands in it: template contents have a line of their own, and the document has none
abbrev pub own_lines : (depth : ℕ) → What → List ℕ
own_lines depth Document = []
own_lines depth (Element namespace name attributes) = line depth (element_text namespace name) ++ attribute_lines (suc depth) (in_order attributes)
own_lines depth TemplateContents = line depth (codes "content")
own_lines depth (Comment text) = line depth (comment_text text)

-- ---- trees, by the lines of the nodes that are in them

abbrev pub child_lines : (lines : ℕ → List ℕ) (depth : ℕ) → Child → List ℕ
child_lines lines depth (Node n) = lines n
child_lines lines depth (Text text) = line depth (quoted text)
child_lines lines depth (Doctype name public_id system_id) = line depth (doctype_text name public_id system_id)

-- children in order
unfoldable pub children_lines : (lines : ℕ → List ℕ) (depth : ℕ) → List Child → List ℕ
children_lines lines depth [] = []
children_lines lines depth (c ∷ children) = child_lines lines depth c ++ children_lines lines depth children

-- A template has its contents in place of children. Rows have the last child first.
abbrev pub lines_within : (lines : ℕ → List ℕ) (depth : ℕ) → (contents : Option ℕ) → List Child → List ℕ
lines_within lines depth (Some contents) children = lines contents
lines_within lines depth None children = children_lines lines depth (reverse children)

-- the lines of a node and of what stands in it, to a number of levels
unfoldable pub node_lines : (levels : ℕ) → List Row → (depth n : ℕ) → List ℕ
node_lines zero rows depth n = []
node_lines (suc levels) rows depth n =
    let r : Row = row_of n rows in
    own_lines depth r.what ++ lines_within (node_lines levels rows (suc depth)) (suc depth) r.contents r.children

-- The lines of what stands in a node, to as many levels as there are rows. A tree is never deeper, since each level has a row of its own.
unfoldable pub tree_lines : List Row → (n : ℕ) → List ℕ
tree_lines rows n =
    let r : Row = row_of n rows in
    lines_within (node_lines (length rows) rows 0) 0 r.contents r.children
