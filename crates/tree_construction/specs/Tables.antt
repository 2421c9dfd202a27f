-- "The rules for parsing tokens in HTML content", in tables: "in table", "in table text", "in caption", "in column group", "in table body",
-- "in row" and "in cell".
use Rattle.std.specs.Prelude.{ℕ, Bool, true, false, not, List, [], ◌∷◌, ◌++◌, ◌&&◌, ◌||◌, Option, Some, None, codes, if◌then◌else◌}
use Rattle.tree_construction.specs.declared.kinds.Kind.{Kind}
use Rattle.tree_construction.specs.declared.kinds.Kind.TheVariants.{HtmlRoot, Body, Style, Script, Template, Form, Input, Table, Caption, ColumnGroup, Column, TableBody, TableRow, Cell}
use Rattle.tree_construction.specs.declared.modes.Mode.{Mode}
use Rattle.tree_construction.specs.declared.modes.Mode.TheVariants.{InTable, InTableText, InCaption, InColumnGroup, InTableBody, InRow, InCell}
use Rattle.tree_construction.specs.Names.{ends_table_scope, is_body_context, is_caption, is_cell, is_column_group, is_row_context, is_table, is_table_body, is_table_row, kind_of, takes_table_text}
use Rattle.tree_construction.specs.Tokens.{StartTagOf, Token, bare_tag, is_null, is_space}
use Rattle.tree_construction.specs.Tokens.Token.{Doctype, StartTag, EndTag, Comment, Character, EndOfFile}
use Rattle.tree_construction.specs.Page.{Open, has_kind, has_name}
use Rattle.tree_construction.specs.Parser.{Again, Parser, cleared_back_to, ended, expects_current, has_template, implied_ended, in_mode, in_table_scope, insert, insert_character, insert_comment, insert_void, inserted, is_current, pop, pop_until, unexpected}
use Rattle.tree_construction.specs.Formatting.{cleared_to_marker, with_marker}
use Rattle.tree_construction.specs.Resetting.{mode_reset}
use Rattle.tree_construction.specs.BeforeBody.{end_template, start_html, start_in_head}
use Rattle.tree_construction.specs.InBody.{character_in_body, end_of_file_in_body, in_body, is_hidden}

-- ---- "The in table insertion mode"

-- "Anything else": "enable foster parenting, process the token using the rules for the in body insertion mode, and then disable foster
-- parenting"
abbrev pub fostered : (Parser → Parser) → Parser → Parser
fostered change p = record (change (record (unexpected p) { fostering = true })) { fostering = false }

abbrev pub table_other : Again → Token → Parser → Parser
table_other again token p = fostered (in_body again token) p

-- "the pending table character tokens": the first is processed again by "in table text"
abbrev pub collects_text : Again → Token → Parser → Parser
collects_text again token p = again (record p { pending = []; original_mode = p.mode; mode = InTableText }) token

abbrev pub table_character : Again → ℕ → Parser → Parser
table_character again c p =
    if is_current takes_table_text p then collects_text again (Character c) p else table_other again (Character c) p

abbrev pub to_table : Parser → Parser
to_table p = cleared_back_to ends_table_scope p

-- "pop elements from this stack until a table element has been popped", "reset the insertion mode appropriately"
abbrev pub without_table : Parser → Parser
without_table p = mode_reset (pop_until (has_kind is_table) p)

-- `form`: it is popped at once
abbrev pub form_in_table : Option ℕ → StartTagOf → Parser → Parser
form_in_table (Some n) tag p = p
form_in_table None tag p = pop (record (inserted Form (codes "form") tag.attributes p) { form = Some p.page.next })

abbrev pub start_form_in_table : StartTagOf → Parser → Parser
start_form_in_table tag p = if has_template p then unexpected p else form_in_table p.form tag (unexpected p)

abbrev pub table_start : Again → Kind → StartTagOf → Parser → Parser
table_start again Caption tag p = in_mode InCaption (insert tag (with_marker (to_table p)))
table_start again ColumnGroup tag p = in_mode InColumnGroup (insert tag (to_table p))
table_start again Column tag p = again (in_mode InColumnGroup (insert (bare_tag (codes "colgroup")) (to_table p))) (StartTag tag)
table_start again TableBody tag p = in_mode InTableBody (insert tag (to_table p))
-- "`td`, `th`, `tr`"
table_start again TableRow tag p = again (in_mode InTableBody (insert (bare_tag (codes "tbody")) (to_table p))) (StartTag tag)
table_start again Cell tag p = again (in_mode InTableBody (insert (bare_tag (codes "tbody")) (to_table p))) (StartTag tag)
table_start again Table tag p =
    if in_table_scope (has_kind is_table) p then again (without_table (unexpected p)) (StartTag tag) else unexpected p
table_start again Style tag p = start_in_head Style tag p
table_start again Script tag p = start_in_head Script tag p
table_start again Template tag p = start_in_head Template tag p
table_start again Input tag p = if is_hidden tag then insert_void tag (unexpected p) else table_other again (StartTag tag) p
table_start again Form tag p = start_form_in_table tag p
table_start again other tag p = table_other again (StartTag tag) p

-- "`body`, `caption`, `col`, .., `tr`": "parse error. Ignore the token."
abbrev pub is_ignored_in_table : Kind → Bool
is_ignored_in_table Body = true
is_ignored_in_table Caption = true
is_ignored_in_table Column = true
is_ignored_in_table ColumnGroup = true
is_ignored_in_table HtmlRoot = true
is_ignored_in_table TableBody = true
is_ignored_in_table Cell = true
is_ignored_in_table TableRow = true
is_ignored_in_table other = false

abbrev pub table_end : Again → Kind → List ℕ → Parser → Parser
table_end again Table name p = if in_table_scope (has_kind is_table) p then without_table p else unexpected p
table_end again Template name p = end_template p
table_end again kind name p = if is_ignored_in_table kind then unexpected p else table_other again (EndTag name) p

abbrev pub in_table : Again → Token → Parser → Parser
in_table again (Character c) p = table_character again c p
in_table again (Comment text) p = insert_comment text p
in_table again (Doctype doctype) p = unexpected p
in_table again (StartTag tag) p = table_start again (kind_of tag.name) tag p
in_table again (EndTag name) p = table_end again (kind_of name) name p
in_table again EndOfFile p = end_of_file_in_body again p

-- ---- "The in table text insertion mode"

unfoldable pub is_all_space : List ℕ → Bool
is_all_space [] = true
is_all_space (c ∷ text) = is_space c && is_all_space text

-- by the rules of "anything else" in the "in table" insertion mode
unfoldable pub flushed_fostered : List ℕ → Parser → Parser
flushed_fostered [] p = p
flushed_fostered (c ∷ text) p = flushed_fostered text (fostered (character_in_body c) p)

unfoldable pub flushed_as_space : List ℕ → Parser → Parser
flushed_as_space [] p = p
flushed_as_space (c ∷ text) p = flushed_as_space text (insert_character c p)

abbrev pub flushed : Parser → Parser
flushed p = if is_all_space p.pending then flushed_as_space p.pending p else flushed_fostered p.pending p

abbrev pub table_text_other : Again → Token → Parser → Parser
table_text_other again token p = again (record (flushed p) { pending = []; mode = p.original_mode }) token

abbrev pub in_table_text : Again → Token → Parser → Parser
in_table_text again (Character c) p = if is_null c then unexpected p else record p { pending = p.pending ++ c ∷ [] }
in_table_text again token p = table_text_other again token p

-- ---- "The in caption insertion mode"

abbrev pub without_caption : (Parser → Parser) → Parser → Parser
without_caption after p =
    if in_table_scope (has_kind is_caption) p
    then after (in_mode InTable (cleared_to_marker (ended (has_kind is_caption) p)))
    else unexpected p

-- parts of tables
abbrev pub is_part : Kind → Bool
is_part Caption = true
is_part Column = true
is_part ColumnGroup = true
is_part TableBody = true
is_part Cell = true
is_part TableRow = true
is_part other = false

abbrev pub caption_end : Again → Kind → List ℕ → Parser → Parser
caption_end again Caption name p = without_caption (λ later. later) p
caption_end again Table name p = without_caption (λ later. again later (EndTag name)) p
caption_end again kind name p = if is_ignored_in_table kind then unexpected p else in_body again (EndTag name) p

abbrev pub in_caption : Again → Token → Parser → Parser
in_caption again (StartTag tag) p =
    if is_part (kind_of tag.name) then without_caption (λ later. again later (StartTag tag)) p else in_body again (StartTag tag) p
in_caption again (EndTag name) p = caption_end again (kind_of name) name p
in_caption again token p = in_body again token p

-- ---- "The in column group insertion mode"

abbrev pub without_column_group : (Parser → Parser) → Parser → Parser
without_column_group after p = if is_current is_column_group p then after (in_mode InTable (pop p)) else unexpected p

abbrev pub column_group_other : Again → Token → Parser → Parser
column_group_other again token p = without_column_group (λ later. again later token) p

abbrev pub column_group_start : Again → Kind → StartTagOf → Parser → Parser
column_group_start again HtmlRoot tag p = start_html tag p
column_group_start again Column tag p = insert_void tag p
column_group_start again Template tag p = start_in_head Template tag p
column_group_start again other tag p = column_group_other again (StartTag tag) p

abbrev pub column_group_end : Again → Kind → List ℕ → Parser → Parser
column_group_end again ColumnGroup name p = without_column_group (λ later. later) p
column_group_end again Column name p = unexpected p
column_group_end again Template name p = end_template p
column_group_end again other name p = column_group_other again (EndTag name) p

abbrev pub in_column_group : Again → Token → Parser → Parser
in_column_group again (Character c) p = if is_space c then insert_character c p else column_group_other again (Character c) p
in_column_group again (Comment text) p = insert_comment text p
in_column_group again (Doctype doctype) p = unexpected p
in_column_group again (StartTag tag) p = column_group_start again (kind_of tag.name) tag p
in_column_group again (EndTag name) p = column_group_end again (kind_of name) name p
in_column_group again EndOfFile p = end_of_file_in_body again p

-- ---- "The in table body insertion mode"

abbrev pub to_body : Parser → Parser
to_body p = cleared_back_to is_body_context p

-- where an element is in table scope: the stack is cleared back to such a one, that is popped, and the mode changes
abbrev pub without_table_body : Bool → (Parser → Parser) → Parser → Parser
without_table_body scoped after p = if scoped then after (in_mode InTable (pop (to_body p))) else unexpected p

abbrev pub without_any_body : (Parser → Parser) → Parser → Parser
without_any_body after p = without_table_body (in_table_scope (has_kind is_table_body) p) after p

abbrev pub table_body_start : Again → Kind → StartTagOf → Parser → Parser
table_body_start again TableRow tag p = in_mode InRow (insert tag (to_body p))
table_body_start again Cell tag p = again (in_mode InRow (insert (bare_tag (codes "tr")) (to_body (unexpected p)))) (StartTag tag)
table_body_start again kind tag p =
    if is_part kind then without_any_body (λ later. again later (StartTag tag)) p else table_start again kind tag p

abbrev pub table_body_end : Again → Kind → List ℕ → Parser → Parser
table_body_end again TableBody name p = without_table_body (in_table_scope (has_name name) p) (λ later. later) p
table_body_end again Table name p = without_any_body (λ later. again later (EndTag name)) p
table_body_end again kind name p = table_end again kind name p

abbrev pub in_table_body : Again → Token → Parser → Parser
in_table_body again (StartTag tag) p = table_body_start again (kind_of tag.name) tag p
in_table_body again (EndTag name) p = table_body_end again (kind_of name) name p
in_table_body again token p = in_table again token p

-- ---- "The in row insertion mode"

abbrev pub to_row : Parser → Parser
to_row p = cleared_back_to is_row_context p

abbrev pub without_row : (Parser → Parser) → Parser → Parser
without_row after p = if in_table_scope (has_kind is_table_row) p then after (in_mode InTableBody (pop (to_row p))) else unexpected p

abbrev pub row_start : Again → Kind → StartTagOf → Parser → Parser
row_start again Cell tag p = with_marker (in_mode InCell (insert tag (to_row p)))
row_start again kind tag p =
    if is_part kind then without_row (λ later. again later (StartTag tag)) p else table_start again kind tag p

-- "`tbody`, `tfoot`, `thead`": without a row in table scope the token is ignored, and that is no parse error
abbrev pub row_end_of_body : Again → List ℕ → Parser → Parser
row_end_of_body again name p =
    if in_table_scope (has_name name) p
    then (if in_table_scope (has_kind is_table_row) p then without_row (λ later. again later (EndTag name)) p else p)
    else unexpected p

abbrev pub row_end : Again → Kind → List ℕ → Parser → Parser
row_end again TableRow name p = without_row (λ later. later) p
row_end again Table name p = without_row (λ later. again later (EndTag name)) p
row_end again TableBody name p = row_end_of_body again name p
row_end again kind name p = table_end again kind name p

abbrev pub in_row : Again → Token → Parser → Parser
in_row again (StartTag tag) p = row_start again (kind_of tag.name) tag p
in_row again (EndTag name) p = row_end again (kind_of name) name p
in_row again token p = in_table again token p

-- ---- "The in cell insertion mode"

-- "Close the cell"
abbrev pub cell_closed : Parser → Parser
cell_closed p = in_mode InRow (cleared_to_marker (ended (has_kind is_cell) p))

abbrev pub end_cell : List ℕ → Parser → Parser
end_cell name p =
    if in_table_scope (has_name name) p then in_mode InRow (cleared_to_marker (ended (has_name name) p)) else unexpected p

-- "`table`, `tbody`, `tfoot`, `thead`, `tr`"
abbrev pub end_around_cell : Again → List ℕ → Parser → Parser
end_around_cell again name p = if in_table_scope (has_name name) p then again (cell_closed p) (EndTag name) else unexpected p

abbrev pub cell_end : Again → Kind → List ℕ → Parser → Parser
cell_end again Cell name p = end_cell name p
cell_end again Body name p = unexpected p
cell_end again Caption name p = unexpected p
cell_end again Column name p = unexpected p
cell_end again ColumnGroup name p = unexpected p
cell_end again HtmlRoot name p = unexpected p
cell_end again Table name p = end_around_cell again name p
cell_end again TableBody name p = end_around_cell again name p
cell_end again TableRow name p = end_around_cell again name p
cell_end again kind name p = in_body again (EndTag name) p

abbrev pub in_cell : Again → Token → Parser → Parser
in_cell again (StartTag tag) p =
    if is_part (kind_of tag.name) then again (cell_closed p) (StartTag tag) else in_body again (StartTag tag) p
in_cell again (EndTag name) p = cell_end again (kind_of name) name p
in_cell again token p = in_body again token p
