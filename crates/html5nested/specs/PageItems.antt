-- The items of a page: of the pieces that it is written of, and of the messages that a sink receives when it is read. Names, values and texts are
-- the bytes of their UTF-8, as they are in tokens.
use Rattle.std.specs.Prelude.{ℕ, Bool, true, false, List, [], ◌∷◌, flat_map, map, encode_utf8_all}
use Rattle.std.specs.List.{list_all}
use Rattle.html5ever_interface.specs.Token.{Told}
use Rattle.html5ever_interface.specs.Token.Told.{Text as ToldText, Tag as ToldTag}
use Rattle.html5ever_interface.specs.declared.interface.token.TagKind.{TagKind}
use Rattle.html5ever_interface.specs.declared.interface.token.TagKind.TheVariants as kind
use Rattle.html5tree.specs.Items.{Attribute, Item}
use Rattle.html5tree.specs.Items.Item.{StartTag, EndTag, Text}
use Rattle.html5write.specs.Pieces.{NameAndValue, Piece}
use Rattle.html5write.specs.Pieces.Piece.{TextPiece, StartTagPiece, EndTagPiece, CommentPiece}
use Rattle.markup5ever.specs.Names.{AttributeOf}

-- ---- pieces

abbrev pub attribute_item : NameAndValue → Attribute
attribute_item a = record { name = encode_utf8_all a.name; value = encode_utf8_all a.value }

-- a comment is no item
abbrev pub items_of_piece : Piece → List Item
items_of_piece (TextPiece text) = Text (encode_utf8_all text) ∷ []
items_of_piece (StartTagPiece name attributes) = StartTag (encode_utf8_all name) (map attribute_item attributes) ∷ []
items_of_piece (EndTagPiece name) = EndTag (encode_utf8_all name) ∷ []
items_of_piece (CommentPiece text) = []

unfoldable pub items_of : List Piece → List Item
items_of pieces = flat_map items_of_piece pieces

abbrev pub is_no_comment : Piece → Bool
is_no_comment (CommentPiece text) = false
is_no_comment other = true

-- whether no piece is a comment: then nothing but items stands on a page
unfoldable pub has_no_comment : List Piece → Bool
has_no_comment pieces = list_all is_no_comment pieces

-- ---- the messages of a sink

abbrev pub attribute_told : AttributeOf → Attribute
attribute_told a = record { name = a.name.local; value = a.value }

abbrev pub item_of_tag : TagKind → List ℕ → List AttributeOf → Item
item_of_tag kind.StartTag name attributes = StartTag name (map attribute_told attributes)
item_of_tag kind.EndTag name attributes = EndTag name

-- a text and a tag; any other token is no item
abbrev pub items_of_token : Told → List Item
items_of_token (ToldText text) = Text text ∷ []
items_of_token (ToldTag tag) = item_of_tag tag.kind tag.name tag.attributes ∷ []
items_of_token other = []

unfoldable pub items_told : List Told → List Item
items_told tokens = flat_map items_of_token tokens
