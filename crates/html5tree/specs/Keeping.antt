-- What the normaliser keeps of items, and what it adds: their texts, and their start tags with all attributes. End tags come and go.
use Rattle.std.specs.Prelude.{◌≡◌, ℕ, Bool, true, false, not, List, [], ◌∷◌, ◌++◌, ◌&&◌, ◌||◌, codes, flat_map, map, if◌then◌else◌}
use Rattle.std.specs.List.{list_any}
use Rattle.html5tree.specs.declared.kinds.Kind.{Kind}
use Rattle.html5tree.specs.declared.kinds.Kind.TheVariants.{Form, Unknown}
use Rattle.html5tree.specs.Fitting.{all_open_after, holds_parts, is_space}
use Rattle.html5tree.specs.Items.{Attribute, Item}
use Rattle.html5tree.specs.Items.Item.{EndTag, StartTag, Text}
use Rattle.html5tree.specs.Names.{is_form, is_part, kind_of, named, no_kind, of_kind}
use Rattle.html5tree.specs.Normal.{is_context}
use Rattle.html5tree.specs.Scopes.{kind_on_top, near}

-- the second list is the first without some of its elements, all of which may be left out
pub data IsWithout {X : Type 0} (may : X → Bool) : List X → List X → Type 0 where
  Done : IsWithout may [] []
  Kept : {xs ys : List X} (x : X) → IsWithout may xs ys → IsWithout may (x ∷ xs) (x ∷ ys)
  LeftOut : {xs ys : List X} (x : X) → may x ≡ true → IsWithout may xs ys → IsWithout may (x ∷ xs) ys

-- ---- content

-- a character of a text, or a start tag with its attributes
pub data Content : Type 0 where
  Character : ℕ → Content
  Start : List ℕ → List Attribute → Content

abbrev pub content_in : Item → List Content
content_in (Text text) = map Character text
content_in (StartTag name attributes) = Start name attributes ∷ []
content_in (EndTag name) = []

-- the content of items, in its order
unfoldable pub content_of : List Item → List Content
content_of items = flat_map content_in items

-- ---- what is added

-- the parents that a part of a table implies; the cell for what is no part; and what `</p>` and `</br>` alone stand for
abbrev pub added_names : List (List ℕ)
added_names = codes "tbody" ∷ codes "tr" ∷ codes "colgroup" ∷ codes "td" ∷ codes "p" ∷ codes "br" ∷ []

abbrev pub has_none : List Attribute → Bool
has_none [] = true
has_none (a ∷ attributes) = false

-- a start tag of one of them, with no attributes
abbrev pub may_be_added : Content → Bool
may_be_added (Start name attributes) = list_any (λ added. named added name) added_names && has_none attributes
may_be_added (Character c) = false

-- items whose content was added
abbrev pub AreAdded : List Item → Type 0
AreAdded items = IsWithout may_be_added (content_of items) []

-- ---- what is left out

-- Whether a start tag has a place above these open elements. A part of a table has one where an element is open that holds it, or does so by
-- implied parents. A form has one when no form is open, but not straight among parts; a tag of another name than the 94 nowhere.
abbrev pub has_place : Kind → List (List ℕ) → Bool
has_place Unknown stack = false
has_place Form stack = not (holds_parts (kind_on_top stack)) && not (near (of_kind is_form) no_kind stack)
has_place kind stack = if is_part kind then near (of_kind (is_context kind)) no_kind stack else true

-- the last of some items
pub record EndsWith (items : List Item) (last : Item) : Type 0 where
  pub before : List Item
  pub whole : items ≡ before ++ last ∷ []

-- Above these open elements. Where enough elements may be open, a start tag may be left out if it has no place there, and no text. Else also a
-- start tag whose element would be too deep; and of a text what is not white space, where a table would have to make a cell for it.
abbrev pub may_leave_out : Bool → List (List ℕ) → Content → Bool
may_leave_out enough stack (Start name attributes) = not enough || not (has_place (kind_of name) stack)
may_leave_out enough stack (Character c) = not enough && not (is_space c)

-- ---- kept content

-- what is written for an item, above these open elements: its content, without what may be left out, and start tags that may be added
pub record KeepsItem (enough : Bool) (stack : List (List ℕ)) (item : Item) (part : List Item) : Type 0 where
  pub kept : List Content
  pub left : IsWithout (may_leave_out enough stack) (content_in item) kept
  pub added : IsWithout may_be_added (content_of part) kept

-- What is written has a part for each item, in their order, and adds what comes before it and after the last. Each item is kept above the
-- elements that are open where its part begins.
unfoldable pub Keeps : Bool → List (List ℕ) → List Item → List Item → Type 0
Keeps enough stack [] written = AreAdded written
Keeps enough stack (item ∷ items) written =
    (before : List Item) × (part : List Item) × (rest : List Item) × (written ≡ before ++ (part ++ rest))
    × AreAdded before × KeepsItem enough (all_open_after stack before) item part
    × Keeps enough (all_open_after stack (before ++ part)) items rest
