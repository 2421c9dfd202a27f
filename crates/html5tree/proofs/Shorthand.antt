-- Items in short form, for cases.
use Rattle.std.specs.Prelude.{ℕ, List, []}
use Rattle.html5tree.specs.Items.{Attribute, Item}
use Rattle.html5tree.specs.Items.Item.{StartTag, EndTag}

-- a start tag without attributes
abbrev pub start : List ℕ → Item
start name = StartTag name []

abbrev pub end : List ℕ → Item
end name = EndTag name

abbrev pub attribute : List ℕ → List ℕ → Attribute
attribute name value = record { name = name; value = value }
