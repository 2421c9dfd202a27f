-- Items and trees as text, for cases by hand. A tag is written as in a page, with attributes `name=value`, and a tree with all its tags.
use Rattle.std.specs.Prelude.{ℕ, Bool, true, false, List, [], ◌∷◌, ◌++◌, ◌==◌, codes, if◌then◌else◌}
use Rattle.html5tree.specs.Items.{Attribute, Item}
use Rattle.html5tree.specs.Items.Item.{StartTag, EndTag, Text}
use Rattle.html5tree.specs.Tree.{Tree}
use Rattle.html5tree.specs.Tree.Tree.{Nothing, Element, Characters}

-- ---- items

-- the characters up to one, and those after it
unfoldable pub up_to : ℕ → List ℕ → List ℕ
up_to stop [] = []
up_to stop (c ∷ text) = if c == stop then [] else c ∷ up_to stop text

unfoldable pub beyond : ℕ → List ℕ → List ℕ
beyond stop [] = []
beyond stop (c ∷ text) = if c == stop then text else beyond stop text

-- attributes, with a space between them
abbrev pub attribute_of : List ℕ → Attribute
attribute_of text = record { name = up_to 61 text; value = beyond 61 text }

unfoldable pub attributes_of : List ℕ → List ℕ → List Attribute
attributes_of before [] = attribute_of before ∷ []
attributes_of before (c ∷ text) = if c == 32 then attribute_of before ∷ attributes_of [] text else attributes_of (before ++ c ∷ []) text

abbrev pub start_of : List ℕ → List ℕ → Item
start_of name [] = StartTag name []
start_of name (c ∷ text) = StartTag name (attributes_of [] (c ∷ text))

abbrev pub tag_of : List ℕ → Item
tag_of [] = Text []
tag_of (c ∷ text) = if c == 47 then EndTag text else start_of (up_to 32 (c ∷ text)) (beyond 32 (c ∷ text))

abbrev pub text_of : List ℕ → List Item → List Item
text_of [] items = items
text_of (c ∷ text) items = Text (c ∷ text) ∷ items

-- the items from within a tag on, or from outside, after the characters of it or of a text
unfoldable pub items_from : Bool → List ℕ → List ℕ → List Item
items_from in_tag before [] = text_of before []
items_from true before (c ∷ text) = if c == 62 then tag_of before ∷ items_from false [] text else items_from true (before ++ c ∷ []) text
items_from false before (c ∷ text) = if c == 60 then text_of before (items_from true [] text) else items_from false (before ++ c ∷ []) text

abbrev pub items_of : List ℕ → List Item
items_of markup = items_from false [] markup

unfoldable pub attributes_text : List Attribute → List ℕ
attributes_text [] = []
attributes_text (a ∷ more) = codes " " ++ (a.name ++ (codes "=" ++ (a.value ++ attributes_text more)))

-- items as they are written
unfoldable pub markup_of : List Item → List ℕ
markup_of [] = []
markup_of (StartTag name attributes ∷ items) = codes "<" ++ (name ++ (attributes_text attributes ++ (codes ">" ++ markup_of items)))
markup_of (EndTag name ∷ items) = codes "</" ++ (name ++ (codes ">" ++ markup_of items))
markup_of (Text text ∷ items) = text ++ markup_of items

-- ---- trees

unfoldable pub shown : Tree → List ℕ
shown Nothing = []
shown (Element before name attributes children) =
    shown before ++ (codes "<" ++ (name ++ (attributes_text attributes ++ (codes ">" ++ (shown children ++ (codes "</" ++ (name ++ codes ">")))))))
shown (Characters before text) = shown before ++ text
