-- "The rules for parsing tokens in HTML content": "In table", "In table text", "In caption", "In column group", "In table body", "In row" and
-- "In cell".
use Rattle.std.specs.Prelude.{ℕ, Bool, true, false, List, [], ◌∷◌, ◌&&◌, ◌||◌, Option, Some, None, codes, map, if◌then◌else◌}
use Rattle.std.specs.Str.{bytes_eq}
use Rattle.std.specs.List.{list_all}
use Rattle.std.specs.Char.{to_ascii_lowercase}
use Rattle.html5tree.specs.declared.kinds.Kind.{Kind}
use Rattle.html5tree.specs.Names.{kind_of, of_kind, named, no_kind, is_table, is_caption, is_column_group, is_table_body, is_table_row, is_cell, is_part, is_fostering}
use Rattle.html5tree.specs.declared.kinds.Kind.TheVariants.{Void, Form, Table, Caption, ColumnGroup, Column, TableBody, TableRow, Cell}
use Rattle.html5tree.specs.Items.{Attribute, Item}
use Rattle.html5tree.specs.Items.Item.{StartTag, EndTag, Text}
use Rattle.html5tree.specs.Scopes.{near, top_of_kind, ends_table_scope}
use Rattle.html5tree.specs.Fitting.{is_space}
use Rattle.html5tree.specs.Page.{Element, names, with_opened}
use Rattle.html5tree.specs.Parser.{Parser, Mode, in_mode, with_marker, pop, popped_until, implied_ended, cleared, insert, insert_text}
use Rattle.html5tree.specs.Parser.Mode.{InBody, InTable, InCaption, InColumnGroup, InTableBody, InRow, InCell}
use Rattle.html5tree.specs.InBody.{with_form, in_body}

-- "Reprocess the token": by the rules of the insertion mode that is then
abbrev pub Again : Type 0
Again = Parser → Item → Parser

-- "Reset the insertion mode appropriately": by the innermost element that says one; by the context element, a `div`, if none does
abbrev pub mode_at : Kind → Mode → Mode
mode_at Cell mode = InCell
mode_at TableRow mode = InRow
mode_at TableBody mode = InTableBody
mode_at Caption mode = InCaption
mode_at ColumnGroup mode = InColumnGroup
mode_at Table mode = InTable
mode_at other mode = mode

unfoldable pub mode_of : List (List ℕ) → Mode
mode_of [] = InBody
mode_of (name ∷ stack) = mode_at (kind_of name) (mode_of stack)

-- "Clear the stack back to a table context", "to a table body context", "to a table row context"
unfoldable pub back_to : (Kind → Bool) → List Element → List Element
back_to test [] = []
back_to test (e ∷ es) = if test (kind_of e.name) then e ∷ es else back_to test es

abbrev pub cleared_to : (Kind → Bool) → Parser → Parser
cleared_to test p = record p { page = with_opened p.page (back_to test p.page.opened) }

abbrev pub in_table_scope : (List ℕ → Bool) → Parser → Bool
in_table_scope test p = near test ends_table_scope (names p.page.opened)

-- ---- "In table"

-- "Anything else": "enable foster parenting, process the token using the rules for the in body insertion mode, and then disable foster
-- parenting"
abbrev pub fostered : Parser → Item → Parser
fostered p item = record (in_body (record p { fostering = true }) item) { fostering = false }

-- "`table`": the table is popped, and the mode reset
abbrev pub without_table : Parser → Parser
without_table p =
    let opened : List Element = popped_until (of_kind is_table) p.page.opened in
    record p { page = with_opened p.page opened; mode = mode_of (names opened) }

-- "`input`": of the type `hidden`
abbrev pub says_hidden : Attribute → Bool
says_hidden a = bytes_eq a.name (codes "type") && bytes_eq (map to_ascii_lowercase a.value) (codes "hidden")

unfoldable pub is_hidden : List Attribute → Bool
is_hidden [] = false
is_hidden (a ∷ more) = says_hidden a || is_hidden more

-- "`form`": it is popped at once
abbrev pub table_form : Option ℕ → Parser → List ℕ → List Attribute → Parser
table_form (Some n) p name attributes = p
table_form None p name attributes = pop (insert (with_form p) name attributes)

abbrev pub table_start : Again → Kind → Parser → List ℕ → List Attribute → Parser
table_start again Caption p name attributes = in_mode InCaption (insert (with_marker (cleared_to is_table p)) name attributes)
table_start again ColumnGroup p name attributes = in_mode InColumnGroup (insert (cleared_to is_table p) name attributes)
table_start again Column p name attributes =
    again (in_mode InColumnGroup (insert (cleared_to is_table p) (codes "colgroup") [])) (StartTag name attributes)
table_start again TableBody p name attributes = in_mode InTableBody (insert (cleared_to is_table p) name attributes)
table_start again TableRow p name attributes =
    again (in_mode InTableBody (insert (cleared_to is_table p) (codes "tbody") [])) (StartTag name attributes)
table_start again Cell p name attributes =
    again (in_mode InTableBody (insert (cleared_to is_table p) (codes "tbody") [])) (StartTag name attributes)
table_start again Table p name attributes = if in_table_scope (of_kind is_table) p then again (without_table p) (StartTag name attributes) else p
table_start again Form p name attributes = table_form p.form p name attributes
table_start again Void p name attributes =
    if bytes_eq name (codes "input") && is_hidden attributes then pop (insert p name attributes) else fostered p (StartTag name attributes)
table_start again other p name attributes = fostered p (StartTag name attributes)

abbrev pub table_end : Kind → Parser → List ℕ → Parser
table_end Table p name = if in_table_scope (of_kind is_table) p then without_table p else p
table_end kind p name = if is_part kind then p else fostered p (EndTag name)

-- "In table text": a text is all of the pending table character tokens
abbrev pub table_text : Parser → List ℕ → Parser
table_text p text = if top_of_kind is_fostering (names p.page.opened) && list_all is_space text then insert_text p text else fostered p (Text text)

abbrev pub in_table : Again → Parser → Item → Parser
in_table again p (StartTag name attributes) = table_start again (kind_of name) p name attributes
in_table again p (EndTag name) = table_end (kind_of name) p name
in_table again p (Text text) = table_text p text

-- ---- "In caption"

abbrev pub without_caption : (Parser → Parser) → Parser → Parser
without_caption again p =
    if in_table_scope (of_kind is_caption) p
    then again (record p {
      page = with_opened p.page (popped_until (of_kind is_caption) (implied_ended (of_kind no_kind) p.page.opened));
      formatting = cleared p.formatting;
      mode = InTable;
    })
    else p

abbrev pub caption_end : Again → Kind → Parser → List ℕ → Parser
caption_end again Caption p name = without_caption (λ later. later) p
caption_end again Table p name = without_caption (λ later. again later (EndTag name)) p
caption_end again kind p name = if is_part kind then p else in_body p (EndTag name)

abbrev pub in_caption : Again → Parser → Item → Parser
in_caption again p (StartTag name attributes) =
    if is_part (kind_of name) then without_caption (λ later. again later (StartTag name attributes)) p else in_body p (StartTag name attributes)
in_caption again p (EndTag name) = caption_end again (kind_of name) p name
in_caption again p (Text text) = in_body p (Text text)

-- ---- "In column group"

-- the white space at the front of a text, and the rest
unfoldable pub leading_space : List ℕ → List ℕ
leading_space [] = []
leading_space (c ∷ text) = if is_space c then c ∷ leading_space text else []

unfoldable pub after_space : List ℕ → List ℕ
after_space [] = []
after_space (c ∷ text) = if is_space c then after_space text else c ∷ text

abbrev pub without_column_group : (Parser → Parser) → Parser → Parser
without_column_group again p = if top_of_kind is_column_group (names p.page.opened) then again (in_mode InTable (pop p)) else p

abbrev pub column_group_start : Again → Kind → Parser → List ℕ → List Attribute → Parser
column_group_start again Column p name attributes = pop (insert p name attributes)
column_group_start again other p name attributes = without_column_group (λ later. again later (StartTag name attributes)) p

abbrev pub column_group_end : Again → Kind → Parser → List ℕ → Parser
column_group_end again ColumnGroup p name = without_column_group (λ later. later) p
column_group_end again Column p name = p
column_group_end again other p name = without_column_group (λ later. again later (EndTag name)) p

abbrev pub in_column_group : Again → Parser → Item → Parser
in_column_group again p (StartTag name attributes) = column_group_start again (kind_of name) p name attributes
in_column_group again p (EndTag name) = column_group_end again (kind_of name) p name
in_column_group again p (Text text) =
    if list_all is_space text then insert_text p text
    else without_column_group (λ later. again later (Text (after_space text))) (insert_text p (leading_space text))

-- ---- "In table body"

-- where an element is in table scope: the stack is cleared back to such a one, that is popped, and the mode changes
abbrev pub without_part : Bool → (Kind → Bool) → Mode → (Parser → Parser) → Parser → Parser
without_part in_scope test mode again p = if in_scope then again (in_mode mode (pop (cleared_to test p))) else p

abbrev pub table_body_start : Again → Kind → Parser → List ℕ → List Attribute → Parser
table_body_start again TableRow p name attributes = in_mode InRow (insert (cleared_to is_table_body p) name attributes)
table_body_start again Cell p name attributes =
    again (in_mode InRow (insert (cleared_to is_table_body p) (codes "tr") [])) (StartTag name attributes)
table_body_start again kind p name attributes =
    if is_part kind
    then without_part (in_table_scope (of_kind is_table_body) p) is_table_body InTable (λ later. again later (StartTag name attributes)) p
    else table_start again kind p name attributes

abbrev pub table_body_end : Again → Kind → Parser → List ℕ → Parser
table_body_end again TableBody p name = without_part (in_table_scope (named name) p) is_table_body InTable (λ later. later) p
table_body_end again Table p name =
    without_part (in_table_scope (of_kind is_table_body) p) is_table_body InTable (λ later. again later (EndTag name)) p
table_body_end again kind p name = table_end kind p name

abbrev pub in_table_body : Again → Parser → Item → Parser
in_table_body again p (StartTag name attributes) = table_body_start again (kind_of name) p name attributes
in_table_body again p (EndTag name) = table_body_end again (kind_of name) p name
in_table_body again p (Text text) = table_text p text

-- ---- "In row"

abbrev pub row_start : Again → Kind → Parser → List ℕ → List Attribute → Parser
row_start again Cell p name attributes = with_marker (in_mode InCell (insert (cleared_to is_table_row p) name attributes))
row_start again kind p name attributes =
    if is_part kind
    then without_part (in_table_scope (of_kind is_table_row) p) is_table_row InTableBody (λ later. again later (StartTag name attributes)) p
    else table_start again kind p name attributes

abbrev pub row_end : Again → Kind → Parser → List ℕ → Parser
row_end again TableRow p name = without_part (in_table_scope (of_kind is_table_row) p) is_table_row InTableBody (λ later. later) p
row_end again Table p name =
    without_part (in_table_scope (of_kind is_table_row) p) is_table_row InTableBody (λ later. again later (EndTag name)) p
row_end again TableBody p name =
    without_part (in_table_scope (named name) p && in_table_scope (of_kind is_table_row) p) is_table_row InTableBody
    (λ later. again later (EndTag name)) p
row_end again kind p name = table_end kind p name

abbrev pub in_row : Again → Parser → Item → Parser
in_row again p (StartTag name attributes) = row_start again (kind_of name) p name attributes
in_row again p (EndTag name) = row_end again (kind_of name) p name
in_row again p (Text text) = table_text p text

-- ---- "In cell"

-- "Close the cell"; an end tag closes one of its name
abbrev pub without_cell : (List ℕ → Bool) → Parser → Parser
without_cell test p = record p {
  page = with_opened p.page (popped_until test (implied_ended (of_kind no_kind) p.page.opened));
  formatting = cleared p.formatting;
  mode = InRow;
}

abbrev pub cell_end : Again → Kind → Parser → List ℕ → Parser
cell_end again Cell p name = if in_table_scope (named name) p then without_cell (named name) p else p
cell_end again Caption p name = p
cell_end again ColumnGroup p name = p
cell_end again Column p name = p
-- "`table`, `tbody`, `tfoot`, `thead`, `tr`"
cell_end again kind p name =
    if is_fostering kind
    then (if in_table_scope (named name) p then again (without_cell (of_kind is_cell) p) (EndTag name) else p)
    else in_body p (EndTag name)

abbrev pub in_cell : Again → Parser → Item → Parser
in_cell again p (StartTag name attributes) =
    if is_part (kind_of name) then again (without_cell (of_kind is_cell) p) (StartTag name attributes) else in_body p (StartTag name attributes)
in_cell again p (EndTag name) = cell_end again (kind_of name) p name
in_cell again p (Text text) = in_body p (Text text)
