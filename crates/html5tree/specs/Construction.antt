-- "Tree construction" of a fragment: the rules of each insertion mode, item by item, and the tree that is built.
use Rattle.std.specs.Prelude.{ℕ, suc, zero, Bool, false, List, [], ◌∷◌}
use Rattle.html5tree.specs.Items.{Item, read_items}
use Rattle.html5tree.specs.Parser.{Parser, Mode, start_parser}
use Rattle.html5tree.specs.Parser.Mode.{InBody, InTable, InCaption, InColumnGroup, InTableBody, InRow, InCell}
use Rattle.html5tree.specs.InBody.{in_body}
use Rattle.html5tree.specs.Tables.{Again, in_table, in_caption, in_column_group, in_table_body, in_row, in_cell}
use Rattle.html5tree.specs.Tree.{Tree}
use Rattle.html5tree.specs.Document.{tree_built}

abbrev pub by_mode : Mode → Again → Parser → Item → Parser
by_mode InBody again p item = in_body p item
by_mode InTable again p item = in_table again p item
by_mode InCaption again p item = in_caption again p item
by_mode InColumnGroup again p item = in_column_group again p item
by_mode InTableBody again p item = in_table_body again p item
by_mode InRow again p item = in_row again p item
by_mode InCell again p item = in_cell again p item

-- An item is processed again at most this many times. Five are enough: a `col` in a cell closes the cell, the row and the body, and opens
-- a column group.
unfoldable pub process : ℕ → Parser → Item → Parser
process zero p item = p
process (suc times) p item = by_mode p.mode (λ later again. process times later again) p item

abbrev pub step : Parser → Item → Parser
step p item = process 8 p item

unfoldable pub run : Parser → List Item → Parser
run p [] = p
run p (item ∷ items) = run (step p item) items

-- the parser after items, where it reads them as it does; the Bool says whether the start tag of a `pre` or a `listing` stands before them
abbrev pub parsed : Bool → Parser → List Item → Parser
parsed fresh p items = run p (read_items fresh items)

-- the tree that stands in a parser's document
abbrev pub tree_in : Parser → Tree
tree_in p = tree_built p.page.edits

-- what a browser builds of these items, where it parses them as a fragment with a `div` as the context element
abbrev pub tree_of : List Item → Tree
tree_of items = tree_in (parsed false start_parser items)
