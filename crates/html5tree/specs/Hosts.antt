-- Fragments in a host: open elements of a page in which items are put, and which stay open.
use Rattle.std.specs.Prelude.{◌≡◌, ℕ, Bool, true, false, not, List, ◌&&◌, ◌||◌}
use Rattle.std.specs.List.{list_all}
use Rattle.html5tree.specs.declared.kinds.Kind.{Kind}
use Rattle.html5tree.specs.Names.{no_kind, is_anchor, is_no_break, is_list_item, is_description, is_heading, is_ruby, is_button, is_form, has_marker, is_part, kind_of}
use Rattle.html5tree.specs.declared.kinds.Kind.TheVariants.{Ordinary, Formatting, Paragraph, Division, Search, Dialog, ListBlock, Block, ListItem, Description, Heading, Preformatted, Rule, Form, Table, RubyBase, RubyContainer, RubyText, Unknown}
use Rattle.html5tree.specs.Items.{Item}
use Rattle.html5tree.specs.Items.Item.{StartTag}
use Rattle.html5tree.specs.Scopes.{kind_on_top, top_of_kind}
use Rattle.html5tree.specs.Fitting.{bounds_item, fits_flow, none_near, no_paragraph, holds_parts}
use Rattle.html5tree.specs.Tree.{Tree, Path, with_text}
use Rattle.html5tree.specs.Tree.Tree.{Nothing, Element, Characters}
use Rattle.html5tree.specs.Parser.{Parser}
use Rattle.html5tree.specs.Lockstep.{IsInOrder, parser}
use Rattle.html5tree.specs.Shown.{Shows}

-- A parser between two items, whose document is the tree of a path. Its insertion mode is the one that "reset the insertion mode
-- appropriately" finds, its form element pointer the open form, if there is one, and each entry of its list of active formatting elements an
-- open element. So is a parser after items that fit. One after other items may be none: after `<p><b></p>` the list has an entry that is not
-- open.
pub record IsHost (p : Parser) (path : Path) : Type 0 where
  pub follows : p ≡ parser p.page p.formatting
  pub good : IsInOrder p.formatting p.page
  pub shown : Shows p.page path

-- what is the same afterwards. The list of active formatting elements may have lost entries, as the Noah's Ark clause removes them.
pub record IsBack (before after : Parser) : Type 0 where
  pub opened : after.page.opened ≡ before.page.opened
  pub mode : after.mode ≡ before.mode
  pub form : after.form ≡ before.form
  pub fostering : after.fostering ≡ before.fostering

-- ---- a tree after another, where a text that begins the second is joined with one that ends the first

unfoldable pub followed_by : Tree → Tree → Tree
followed_by tree Nothing = tree
followed_by tree (Element before name attributes children) = Element (followed_by tree before) name attributes children
followed_by tree (Characters Nothing text) = with_text tree text
followed_by tree (Characters before text) = Characters (followed_by tree before) text

-- a path with a tree at the end of the content of the innermost open element
abbrev pub put_at : Path → Tree → Path
put_at path tree = record path { inner = followed_by path.inner tree }

-- ---- which fragments fit in a host, by the names of its open elements, innermost first

-- whether an element of a kind can stand in a host, and in what a fragment opens there: it closes nothing of the host
abbrev pub allows : List (List ℕ) → Kind → Bool
allows stack Unknown = true
allows stack RubyBase = none_near is_ruby has_marker stack
allows stack RubyContainer = none_near is_ruby has_marker stack
allows stack RubyText = none_near is_ruby has_marker stack
allows stack kind = is_part kind || fits_flow kind stack

abbrev pub allows_item : List (List ℕ) → Item → Bool
allows_item stack (StartTag name attributes) = allows stack (kind_of name)
allows_item stack other = true

-- whether text can stand there, and all elements of a fragment are allowed
unfoldable pub suits : List (List ℕ) → List Item → Bool
suits stack items = not (holds_parts (kind_on_top stack)) && list_all (allows_item stack) items

-- ---- hosts that suit all fragments

-- text can stand there, and nothing is near that a fragment could close
unfoldable pub is_flow_host : List (List ℕ) → Bool
is_flow_host stack =
    not (holds_parts (kind_on_top stack)) && (not (top_of_kind is_heading stack) && (no_paragraph stack
    && (none_near is_anchor has_marker stack && (none_near is_no_break has_marker stack && (none_near is_button has_marker stack
    && (none_near is_list_item bounds_item stack && (none_near is_description bounds_item stack
    && (none_near is_ruby has_marker stack && none_near is_form no_kind stack))))))))

-- elements that change nothing of it: `div`, `span`, `b`, `ul`, `section` and others
abbrev pub is_neutral : Kind → Bool
is_neutral Ordinary = true
is_neutral Formatting = true
is_neutral Division = true
is_neutral Search = true
is_neutral Dialog = true
is_neutral ListBlock = true
is_neutral Block = true
is_neutral Preformatted = true
is_neutral other = false

-- elements whose start tags close a `p`
abbrev pub closes_paragraph : Kind → Bool
closes_paragraph Paragraph = true
closes_paragraph Division = true
closes_paragraph Search = true
closes_paragraph Dialog = true
closes_paragraph ListBlock = true
closes_paragraph Block = true
closes_paragraph ListItem = true
closes_paragraph Description = true
closes_paragraph Heading = true
closes_paragraph Preformatted = true
closes_paragraph Rule = true
closes_paragraph Form = true
closes_paragraph Table = true
closes_paragraph other = false
