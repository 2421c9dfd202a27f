-- Which items fit, by the names of the open elements, innermost first: tree construction does with one that fits what its tag shows, and
-- neither moves, closes, repeats nor drops anything. Each row of the table goes by kinds of names; where a row says that something is not
-- near, no scope of the standard goes further than the row does.
use Rattle.std.specs.Prelude.{ℕ, Bool, true, false, not, List, [], ◌∷◌, ◌&&◌, ◌||◌, ◌==◌, if◌then◌else◌}
use Rattle.std.specs.List.{list_all}
use Rattle.html5tree.specs.declared.kinds.Kind.{Kind}
use Rattle.html5tree.specs.Names.{kind_of, of_kind, named, no_kind, is_anchor, is_no_break, is_paragraph, is_list_item, is_description, is_heading, is_ruby, is_button, is_form, is_implied, is_void, has_marker, is_part, ends_item_search}
use Rattle.html5tree.specs.declared.kinds.Kind.TheVariants.{Ordinary, Ruby, Anchor, NoBreak, Formatting, Search, ListItem, Description, Heading, Void, RubyBase, RubyContainer, RubyText, Button, Form, Table, Caption, ColumnGroup, Column, TableBody, TableRow, Cell, Unknown}
use Rattle.html5tree.specs.Items.{Item}
use Rattle.html5tree.specs.Items.Item.{StartTag, EndTag, Text}
use Rattle.html5tree.specs.Scopes.{near, top_is, top_of_kind, kind_on_top}

-- ---- what bounds a row

-- a cell, a caption or a button stands between a `p` and what would end it
abbrev pub bounds_paragraph : Kind → Bool
bounds_paragraph Button = true
bounds_paragraph kind = has_marker kind

-- what ends the search for an open `li`, `dd` or `dt`; `search` is not relied on, since it is new among the special elements
abbrev pub bounds_item : Kind → Bool
bounds_item Search = false
bounds_item kind = ends_item_search kind

abbrev pub none_near : (Kind → Bool) → (Kind → Bool) → List (List ℕ) → Bool
none_near test ends stack = not (near (of_kind test) ends stack)

abbrev pub no_paragraph : List (List ℕ) → Bool
no_paragraph stack = none_near is_paragraph bounds_paragraph stack

-- within a `ruby` no element is open whose end tag would be implied
abbrev pub none_implied : (Kind → Bool) → List (List ℕ) → Bool
none_implied test stack = not (near (of_kind is_ruby) has_marker stack && top_of_kind test stack)

abbrev pub is_implied_before_text : Kind → Bool
is_implied_before_text RubyContainer = false
is_implied_before_text kind = is_implied kind

-- ---- start tags

-- where text can stand
abbrev pub fits_flow : Kind → List (List ℕ) → Bool
fits_flow Unknown stack = false
fits_flow Ordinary stack = true
fits_flow Ruby stack = true
fits_flow Formatting stack = true
fits_flow Void stack = true
fits_flow Anchor stack = none_near is_anchor has_marker stack
fits_flow NoBreak stack = none_near is_no_break has_marker stack
fits_flow Button stack = none_near is_button has_marker stack
fits_flow Heading stack = no_paragraph stack && not (top_of_kind is_heading stack)
fits_flow ListItem stack = no_paragraph stack && none_near is_list_item bounds_item stack
fits_flow Description stack = no_paragraph stack && none_near is_description bounds_item stack
fits_flow Form stack = no_paragraph stack && none_near is_form no_kind stack
fits_flow RubyBase stack = none_implied is_implied stack
fits_flow RubyContainer stack = none_implied is_implied stack
fits_flow RubyText stack = none_implied is_implied_before_text stack
-- blocks, `hr` and `table`
fits_flow other stack = no_paragraph stack

-- a table and some of its parts hold parts alone, and each part stands in one of these
abbrev pub holds_parts : Kind → Bool
holds_parts Table = true
holds_parts ColumnGroup = true
holds_parts TableBody = true
holds_parts TableRow = true
holds_parts other = false

abbrev pub holds : Kind → Kind → Bool
holds Table Caption = true
holds Table ColumnGroup = true
holds Table TableBody = true
holds ColumnGroup Column = true
holds TableBody TableRow = true
holds TableRow Cell = true
holds other part = false

abbrev pub fits_in : Kind → Kind → List (List ℕ) → Bool
fits_in top kind stack = if holds_parts top then holds top kind else not (is_part kind) && fits_flow kind stack

-- ---- items

abbrev pub is_space : ℕ → Bool
is_space c = (c == 9) || (c == 10) || (c == 12) || (c == 13) || (c == 32)

-- an element of it can be open
abbrev pub can_open : Kind → Bool
can_open Unknown = false
can_open kind = not (is_void kind)

unfoldable pub fits : List (List ℕ) → Item → Bool
fits stack (StartTag name attributes) = fits_in (kind_on_top stack) (kind_of name) stack
fits stack (EndTag name) = can_open (kind_of name) && top_is (named name) stack
fits stack (Text text) = if holds_parts (kind_on_top stack) then list_all is_space text else true

-- the open elements after an item that fits
abbrev pub without_top : List (List ℕ) → List (List ℕ)
without_top [] = []
without_top (name ∷ stack) = stack

unfoldable pub open_after : List (List ℕ) → Item → List (List ℕ)
open_after stack (StartTag name attributes) = if is_void (kind_of name) then stack else name ∷ stack
open_after stack (EndTag name) = without_top stack
open_after stack (Text text) = stack

-- each fits where it stands
unfoldable pub each_fits : List (List ℕ) → List Item → Bool
each_fits stack [] = true
each_fits stack (item ∷ items) = fits stack item && each_fits (open_after stack item) items

abbrev pub none_open : List (List ℕ) → Bool
none_open [] = true
none_open (name ∷ stack) = false

-- and no element is open at the end
unfoldable pub all_open_after : List (List ℕ) → List Item → List (List ℕ)
all_open_after stack [] = stack
all_open_after stack (item ∷ items) = all_open_after (open_after stack item) items

abbrev pub all_fit : List (List ℕ) → List Item → Bool
all_fit stack items = each_fits stack items && none_open (all_open_after stack items)
