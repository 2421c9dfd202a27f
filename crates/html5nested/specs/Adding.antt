-- What is added to a page, item by item.
use Rattle.std.specs.Prelude.{◌≡◌, true, List, [], ◌++◌, map}
use Rattle.html5tree.specs.Items.{Attribute as TreeAttribute, Item as TreeItem}
use Rattle.html5tree.specs.Items.Item.{StartTag as StartTagItem, EndTag as EndTagItem, Text as TextItem}
use Rattle.html5tree.specs.Nested.{Nested}
use Rattle.html5tree.specs.Normal.{fitted, open_after_fitted}
use Rattle.html5write.specs.Pieces.{Piece}
use Rattle.html5write.specs.declared.piece.Attribute.{Attribute}
use Rattle.html5nested.specs.PageItems.{has_no_comment, items_of}
use Rattle.html5nested.specs.declared.item.Item.{Item}
use Rattle.html5nested.specs.declared.item.Item.TheVariants.{StartTag, EndTag, Text}

abbrev pub attribute_said : Attribute → TreeAttribute
attribute_said a = record { name = a.name.now; value = a.value.now }

-- the item that a program hands in
abbrev pub item_said : Item → TreeItem
item_said (StartTag name attributes) = StartTagItem name.now (map attribute_said attributes.now)
item_said (EndTag name) = EndTagItem name.now
item_said (Text text) = TextItem text.now

-- these items stand last, and no comment came
pub record Adds (before after : List Piece) (added : List TreeItem) : Type 0 where
  pub items : items_of after ≡ items_of before ++ added
  pub no_comment : has_no_comment before ≡ true → has_no_comment after ≡ true

-- the output for an item, so that it fits above the open elements, and the elements open after it
pub record AddsFitted (before after : List Piece) (was now : Nested) (item : TreeItem) : Type 0 where
  pub added : Adds before after (fitted was.limit was.opened item)
  pub opened : now.opened ≡ open_after_fitted was.limit was.opened item
  pub limit : now.limit ≡ was.limit

-- for such an item nothing is written, and it changes nothing
pub record IsPassed (nested : Nested) (item : TreeItem) : Type 0 where
  pub nothing : fitted nested.limit nested.opened item ≡ []
  pub opened : open_after_fitted nested.limit nested.opened item ≡ nested.opened
