-- The normaliser: it makes items that fit of any items. By the names of the open elements, innermost first, and a limit of how many may be open,
-- an item has a plan: what is closed and opened before it, and whether it is written. Each row goes by kinds of names, as those of Fitting do.
use Rattle.std.specs.Prelude.{◌≡◌, ℕ, suc, ◌≤◌, Bool, true, false, not, List, [], ◌∷◌, ◌++◌, ◌&&◌, codes, length, take, drop, map, filter, nat_le, nat_lt, if◌then◌else◌}
use Rattle.std.specs.List.{list_all}
use Rattle.html5tree.specs.declared.kinds.Kind.{Kind}
use Rattle.html5tree.specs.Names.{kind_of, of_kind, named, no_kind, is_anchor, is_no_break, is_paragraph, is_list_item, is_description, is_heading, is_ruby, is_button, is_form, is_table, is_implied, is_special, has_marker, is_part}
use Rattle.html5tree.specs.declared.kinds.Kind.TheVariants.{Ordinary, Ruby, Anchor, NoBreak, Formatting, Paragraph, ListBlock, ListItem, Description, Heading, Void, RubyBase, RubyContainer, RubyText, Button, Form, Table, Caption, ColumnGroup, Column, TableBody, TableRow, Cell, Unknown}
use Rattle.html5tree.specs.declared.plans.Written.{Written}
use Rattle.html5tree.specs.declared.plans.Written.TheVariants.{Itself, Nothing, Parted, WhiteSpace, EmptyParagraph, LineBreak}
use Rattle.html5tree.specs.Items.{Item, text_before}
use Rattle.html5tree.specs.Items.Item.{StartTag, EndTag, Text}
use Rattle.html5tree.specs.Scopes.{near, top_of_kind, kind_on_top}
use Rattle.html5tree.specs.Fitting.{bounds_item, bounds_paragraph, can_open, fits_in, holds_parts, is_implied_before_text, is_space, open_after}
use Rattle.html5tree.specs.Tables.{leading_space, after_space}

-- ---- plans

pub record Plan : Type 0 where
  -- how many of the innermost open elements are closed first
  pub closes : ℕ
  -- the implied parents that are opened then, the outermost first
  pub opens : List (List ℕ)
  pub writes : Written

abbrev pub kept : ℕ → List (List ℕ) → Plan
kept closes opens = record { closes = closes; opens = opens; writes = Itself }

abbrev pub closing : ℕ → Plan
closing closes = record { closes = closes; opens = []; writes = Nothing }

abbrev pub dropped : Plan
dropped = closing 0

-- ---- how many elements are closed

-- those in the innermost that passes
unfoldable pub count_inside : (List ℕ → Bool) → List (List ℕ) → ℕ
count_inside test [] = 0
count_inside test (name ∷ stack) = if test name then 0 else suc (count_inside test stack)

-- and it, too, where it is near
abbrev pub through : (List ℕ → Bool) → (Kind → Bool) → List (List ℕ) → ℕ
through test ends stack = if near test ends stack then suc (count_inside test stack) else 0

-- the innermost ones that all pass
unfoldable pub run_of : (Kind → Bool) → List (List ℕ) → ℕ
run_of test [] = 0
run_of test (name ∷ stack) = if test (kind_of name) then suc (run_of test stack) else 0

-- ---- parts of tables, and content in a cell of its own

-- the elements that hold a part, or do so by implied parents
abbrev pub is_context : Kind → Kind → Bool
is_context Column ColumnGroup = true
is_context TableRow TableBody = true
is_context Cell TableBody = true
is_context Cell TableRow = true
is_context part Table = true
is_context part other = false

-- the implied parents of a part in such an element
abbrev pub parents : Kind → Kind → List (List ℕ)
parents Table Column = codes "colgroup" ∷ []
parents Table TableRow = codes "tbody" ∷ []
parents Table Cell = codes "tbody" ∷ codes "tr" ∷ []
parents TableBody Cell = codes "tr" ∷ []
parents top part = []

abbrev pub inside_context : Kind → List (List ℕ) → ℕ
inside_context part stack = count_inside (of_kind (is_context part)) stack

abbrev pub parents_in : List (List ℕ) → Kind → List (List ℕ)
parents_in stack part = parents (kind_on_top (drop (inside_context part stack) stack)) part

-- a part stands in the innermost table, or in a part of it
abbrev pub part_plan : Kind → List (List ℕ) → Plan
part_plan part stack =
    if near (of_kind (is_context part)) no_kind stack then kept (inside_context part stack) (parents_in stack part) else dropped

-- what is no part, and comes where only parts stand, is put in a cell
abbrev pub cell_plan : List (List ℕ) → Plan
cell_plan stack = kept (inside_context Cell stack) (parents_in stack Cell ++ codes "td" ∷ [])

-- but a table closes that table, and a form is dropped
abbrev pub table_plan : Kind → List (List ℕ) → Plan
table_plan Unknown stack = dropped
table_plan Form stack = dropped
table_plan Table stack = kept (suc (count_inside (of_kind is_table) stack)) []
table_plan kind stack = cell_plan stack

-- ---- where text can stand

abbrev pub paragraph_closes : List (List ℕ) → ℕ
paragraph_closes stack = through (of_kind is_paragraph) bounds_paragraph stack

-- a `li` closes the near one, and if there is none the near `p`
abbrev pub item_closes : (Kind → Bool) → List (List ℕ) → ℕ
item_closes test stack =
    if near (of_kind test) bounds_item stack then suc (count_inside (of_kind test) stack) else paragraph_closes stack

-- a heading closes the near `p`, and then the heading that it would stand in
abbrev pub heading_closes : List (List ℕ) → ℕ
heading_closes stack =
    if top_of_kind is_heading (drop (paragraph_closes stack) stack) then suc (paragraph_closes stack) else paragraph_closes stack

-- within a `ruby` those are closed whose end tag would be implied
abbrev pub implied_closes : (Kind → Bool) → List (List ℕ) → ℕ
implied_closes test stack = if near (of_kind is_ruby) has_marker stack then run_of test stack else 0

abbrev pub flow_closes : Kind → List (List ℕ) → ℕ
flow_closes Ordinary stack = 0
flow_closes Ruby stack = 0
flow_closes Formatting stack = 0
flow_closes Void stack = 0
flow_closes Anchor stack = through (of_kind is_anchor) has_marker stack
flow_closes NoBreak stack = through (of_kind is_no_break) has_marker stack
flow_closes Button stack = through (of_kind is_button) has_marker stack
flow_closes Heading stack = heading_closes stack
flow_closes ListItem stack = item_closes is_list_item stack
flow_closes Description stack = item_closes is_description stack
flow_closes RubyBase stack = implied_closes is_implied stack
flow_closes RubyContainer stack = implied_closes is_implied stack
flow_closes RubyText stack = implied_closes is_implied_before_text stack
-- blocks, `hr`, `form` and `table`
flow_closes other stack = paragraph_closes stack

abbrev pub flow_plan : Kind → List (List ℕ) → Plan
flow_plan Unknown stack = dropped
flow_plan Form stack = if near (of_kind is_form) no_kind stack then dropped else kept (paragraph_closes stack) []
flow_plan kind stack = kept (flow_closes kind stack) []

-- ---- plans for tags and texts

abbrev pub start_plan : Kind → List (List ℕ) → Plan
start_plan kind stack =
    if is_part kind then part_plan kind stack
    else if holds_parts (kind_on_top stack) then table_plan kind stack
    else flow_plan kind stack

-- the open elements when this many parents are opened
unfoldable pub opened : List (List ℕ) → List (List ℕ) → List (List ℕ)
opened [] stack = stack
opened (name ∷ names) stack = opened names (name ∷ stack)

abbrev pub moved : Plan → List (List ℕ) → List (List ℕ)
moved plan stack = opened plan.opens (drop plan.closes stack)

-- the open elements after a plan
abbrev pub after_written : Written → List (List ℕ) → Item → List (List ℕ)
after_written Itself stack item = open_after stack item
after_written other stack item = stack

abbrev pub stack_after : Plan → List (List ℕ) → Item → List (List ℕ)
stack_after plan stack item = after_written plan.writes (moved plan stack) item

-- nothing is done where more elements than the limit would be open
abbrev pub limited : ℕ → List (List ℕ) → Item → Plan → Plan
limited limit stack item plan = if nat_le (length (stack_after plan stack item)) limit then plan else dropped

-- which element an end tag closes: one of its name, but any heading for a heading
abbrev pub is_ended : Kind → List ℕ → List ℕ → Bool
is_ended Heading name other = is_heading (kind_of other)
is_ended Paragraph name other = is_paragraph (kind_of other)
is_ended kind name other = named name other

-- and what ends the search for it
abbrev pub bounds_end : Kind → Kind → Bool
bounds_end Paragraph kind = bounds_paragraph kind
bounds_end ListItem ListBlock = true
bounds_end ListItem kind = has_marker kind
bounds_end Ordinary kind = is_special kind
bounds_end Ruby kind = is_special kind
bounds_end RubyBase kind = is_special kind
bounds_end RubyContainer kind = is_special kind
bounds_end RubyText kind = is_special kind
bounds_end Table kind = is_table kind
bounds_end Caption kind = is_table kind
bounds_end ColumnGroup kind = is_table kind
bounds_end TableBody kind = is_table kind
bounds_end TableRow kind = is_table kind
bounds_end Cell kind = is_table kind
bounds_end other kind = has_marker kind

-- when no `p` is near, an end tag `p` stands for an empty one, if text can stand there
abbrev pub lone_end_plan : ℕ → Kind → List (List ℕ) → Plan
lone_end_plan limit Paragraph stack =
    if not (holds_parts (kind_on_top stack)) && nat_lt (length stack) limit then record dropped { writes = EmptyParagraph } else dropped
lone_end_plan limit kind stack = dropped

abbrev pub end_plan : ℕ → Kind → List (List ℕ) → List ℕ → Plan
end_plan limit kind stack name =
    if named (codes "br") name then limited limit stack (EndTag name) (record (start_plan Void stack) { writes = LineBreak })
    else if near (is_ended kind name) (bounds_end kind) stack then closing (suc (count_inside (is_ended kind name) stack))
    else lone_end_plan limit kind stack

-- A text is put in a cell from its first character on that is not white space. Where that would be too deep only its white space is written, so
-- that it doesn't matter how a text is cut.
abbrev pub cell_text_plan : ℕ → List (List ℕ) → Plan → Plan
cell_text_plan limit stack plan =
    if nat_le (length (moved plan stack)) limit then record plan { writes = Parted } else record dropped { writes = WhiteSpace }

abbrev pub text_plan : ℕ → List (List ℕ) → List ℕ → Plan
text_plan limit stack text =
    if holds_parts (kind_on_top stack) && not (list_all is_space text) then cell_text_plan limit stack (cell_plan stack) else kept 0 []

unfoldable pub plan_of : ℕ → List (List ℕ) → Item → Plan
plan_of limit stack (StartTag name attributes) = limited limit stack (StartTag name attributes) (start_plan (kind_of name) stack)
plan_of limit stack (EndTag name) = end_plan limit (kind_of name) stack name
plan_of limit stack (Text text) = text_plan limit stack text

-- ---- what is written

abbrev pub end_tags : List (List ℕ) → List Item
end_tags names = map (λ name. EndTag name) names

abbrev pub start_tags : List (List ℕ) → List Item
start_tags names = map (λ name. StartTag name []) names

-- before anything is closed, and after that
abbrev pub written_first : Written → Item → List Item
written_first Parted (Text text) = text_before (leading_space text) []
written_first writes item = []

abbrev pub written_last : Written → Item → List Item
written_last Itself item = item ∷ []
written_last Parted (Text text) = Text (after_space text) ∷ []
written_last WhiteSpace (Text text) = Text (filter is_space text) ∷ []
written_last EmptyParagraph item = StartTag (codes "p") [] ∷ EndTag (codes "p") ∷ []
written_last LineBreak item = StartTag (codes "br") [] ∷ []
written_last other item = []

abbrev pub written : Plan → List (List ℕ) → Item → List Item
written plan stack item =
    written_first plan.writes item
    ++ (end_tags (take plan.closes stack) ++ (start_tags plan.opens ++ written_last plan.writes item))

-- the items that are written for one, and the open elements after them
abbrev pub fitted : ℕ → List (List ℕ) → Item → List Item
fitted limit stack item = written (plan_of limit stack item) stack item

abbrev pub open_after_fitted : ℕ → List (List ℕ) → Item → List (List ℕ)
open_after_fitted limit stack item = stack_after (plan_of limit stack item) stack item

-- the items that are written for all; at the end all open elements are closed
unfoldable pub normal_above : ℕ → List (List ℕ) → List Item → List Item
normal_above limit stack [] = end_tags stack
normal_above limit stack (item ∷ items) = fitted limit stack item ++ normal_above limit (open_after_fitted limit stack item) items

abbrev pub normal : ℕ → List Item → List Item
normal limit items = normal_above limit [] items

-- ---- words of its laws

-- whether each open element fits where it stands: then they are open after items that fit
abbrev pub stands : List ℕ → List (List ℕ) → Bool
stands name stack = can_open (kind_of name) && fits_in (kind_on_top stack) (kind_of name) stack

unfoldable pub all_stand : List (List ℕ) → Bool
all_stand [] = true
all_stand (name ∷ stack) = stands name stack && all_stand stack

-- what the open elements are between two items
pub record IsReady (limit : ℕ) (stack : List (List ℕ)) : Type 0 where
  pub stand : all_stand stack ≡ true
  pub short : length stack ≤ limit

-- whether no more elements than the limit are open, before each item and at the end
unfoldable pub stays_within : ℕ → List (List ℕ) → List Item → Bool
stays_within limit stack [] = nat_le (length stack) limit
stays_within limit stack (item ∷ items) = nat_le (length stack) limit && stays_within limit (open_after stack item) items
