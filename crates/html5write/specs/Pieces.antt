-- What a writer writes: texts, tags and comments, in characters, and the page that they make.
use Rattle.std.specs.Prelude.{ℕ, Bool, true, false, not, List, [], ◌∷◌, ◌++◌, ◌==◌, ◌||◌, ◌&&◌, flat_map, codes, encode_utf8_all}
use Rattle.std.specs.List.{list_all}
use Rattle.std.specs.Str.{bytes_eq}
use Rattle.html5reading.specs.Characters.{null, carriage_return, quotation_mark, apostrophe, hyphen, solidus, less_than, equals_sign, greater_than, is_between, is_white_space}
use Rattle.html5write.specs.Escaped.{escaped_text}

-- an attribute
pub record NameAndValue : Type 0 where
  pub name : List ℕ
  pub value : List ℕ

pub data Piece : Type 0 where
  TextPiece : List ℕ → Piece
  -- the name and the attributes
  StartTagPiece : List ℕ → List NameAndValue → Piece
  -- the name
  EndTagPiece : List ℕ → Piece
  CommentPiece : List ℕ → Piece

-- what contracts see of a trail
pub record Trailed : Type 0 where
  pub pieces : List Piece

-- ---- the page

abbrev pub attribute_text : NameAndValue → List ℕ
attribute_text a = codes " " ++ (a.name ++ (codes "=\"" ++ (escaped_text a.value ++ codes "\"")))

-- the characters that stand in the page for a piece
abbrev pub piece_text : Piece → List ℕ
piece_text (TextPiece text) = escaped_text text
piece_text (StartTagPiece name attributes) = codes "<" ++ (name ++ (flat_map attribute_text attributes ++ codes ">"))
piece_text (EndTagPiece name) = codes "</" ++ (name ++ codes ">")
piece_text (CommentPiece text) = codes "<!--" ++ (text ++ codes "-->")

abbrev pub pieces_text : List Piece → List ℕ
pieces_text pieces = flat_map piece_text pieces

-- ---- which pieces can be written

-- no token of a page has a NUL in a text or a value
abbrev pub has_no_null : List ℕ → Bool
has_no_null text = list_all (λ c. not (c == null)) text

abbrev pub is_capital : ℕ → Bool
is_capital c = is_between 0x0041 0x005A c

-- whether a character can stand in the name of a tag: another would end the name, or come back as another character
unfoldable pub is_name_character : ℕ → Bool
is_name_character c =
    not (is_white_space c || (c == solidus) || (c == greater_than) || (c == null) || (c == carriage_return) || is_capital c)

-- a small letter, and what can follow it
unfoldable pub is_tag_name : List ℕ → Bool
is_tag_name [] = false
is_tag_name (c ∷ name) = is_between 0x0061 0x007A c && list_all is_name_character name

-- and in the name of an attribute, where some more are errors
unfoldable pub is_attribute_character : ℕ → Bool
is_attribute_character c =
    is_name_character c && not ((c == quotation_mark) || (c == apostrophe) || (c == less_than) || (c == equals_sign))

unfoldable pub is_attribute_name : List ℕ → Bool
is_attribute_name [] = false
is_attribute_name (c ∷ name) = list_all is_attribute_character (c ∷ name)

abbrev pub is_attribute : NameAndValue → Bool
is_attribute a = is_attribute_name a.name && has_no_null a.value

-- names are compared as they are sent, in UTF-8
abbrev pub differs_from : NameAndValue → NameAndValue → Bool
differs_from a other = not (bytes_eq (encode_utf8_all a.name) (encode_utf8_all other.name))

-- no two attributes have one name
unfoldable pub are_distinct : List NameAndValue → Bool
are_distinct [] = true
are_distinct (a ∷ attributes) = list_all (differs_from a) attributes && are_distinct attributes

-- whether a character can stand in a comment: a NUL would come back as another, and a CR as a line feed
abbrev pub is_comment_character : ℕ → Bool
is_comment_character c = not ((c == null) || (c == carriage_return))

-- what can follow a dash in a comment: not another, nor the end
unfoldable pub can_follow_dash : List ℕ → Bool
can_follow_dash [] = false
can_follow_dash (c ∷ text) = not (c == hyphen)

-- in a comment no two dashes stand together, and none at the end
unfoldable pub has_lone_dashes : List ℕ → Bool
has_lone_dashes [] = true
has_lone_dashes (c ∷ text) = (not (c == hyphen) || can_follow_dash text) && has_lone_dashes text

-- and it doesn't begin with `>` or `-`, since `<!-->` and `<!--->` are whole comments
unfoldable pub can_begin_comment : List ℕ → Bool
can_begin_comment [] = true
can_begin_comment (c ∷ text) = not (c == greater_than) && not (c == hyphen)

abbrev pub is_comment_text : List ℕ → Bool
is_comment_text text = list_all is_comment_character text && (can_begin_comment text && has_lone_dashes text)

abbrev pub can_write : Piece → Bool
can_write (TextPiece text) = has_no_null text
can_write (StartTagPiece name attributes) = is_tag_name name && (list_all is_attribute attributes && are_distinct attributes)
can_write (EndTagPiece name) = is_tag_name name
can_write (CommentPiece text) = is_comment_text text
