-- Why a piece can't be written.
use Rattle.std.specs.Prelude.{ℕ, ◌+◌, List, [], ◌∷◌, ◌==◌, length, encode_utf8, Option, None, Some, option_map, if◌then◌else◌}
use Rattle.std.specs.Option.{option_or}
use Rattle.html5reading.specs.Characters.{null}
use Rattle.html5write.specs.Pieces.{NameAndValue, Piece, is_tag_name, is_attribute_name, is_comment_text, differs_from}
use Rattle.html5write.specs.Pieces.Piece.{TextPiece, StartTagPiece, EndTagPiece, CommentPiece}
use Rattle.html5write.specs.declared.error.WriteError.{WriteError}
use Rattle.html5write.specs.declared.error.WriteError.TheVariants.{NullInText, TagName, AttributeName, NullInValue, Repeated, CommentText}

-- the byte at which the first NUL of a text stands, where the text begins at byte `at`
unfoldable pub null_from : ℕ → List ℕ → Option ℕ
null_from at [] = None
null_from at (c ∷ text) = if c == null then Some at else null_from (at + length (encode_utf8 c)) text

-- the first of these attributes that has the name of `a`, where they are counted from `index`
unfoldable pub repeat_from : NameAndValue → ℕ → List NameAndValue → Option ℕ
repeat_from a index [] = None
repeat_from a index (other ∷ later) = if differs_from a other then repeat_from a (index + 1) later else Some index

abbrev pub attribute_refusal : ℕ → NameAndValue → Option WriteError
attribute_refusal index a =
    if is_attribute_name a.name then option_map (λ at. NullInValue index at) (null_from 0 a.value) else Some (AttributeName index)

-- the first thing that is wrong with attributes, where they are counted from `index`
unfoldable pub attributes_refusal : ℕ → List NameAndValue → Option WriteError
attributes_refusal index [] = None
attributes_refusal index (a ∷ later) =
    option_or (attribute_refusal index a) (option_or (option_map Repeated (repeat_from a (index + 1) later)) (attributes_refusal (index + 1) later))

unfoldable pub refusal_of : Piece → Option WriteError
refusal_of (TextPiece text) = option_map NullInText (null_from 0 text)
refusal_of (StartTagPiece name attributes) = if is_tag_name name then attributes_refusal 0 attributes else Some TagName
refusal_of (EndTagPiece name) = if is_tag_name name then None else Some TagName
refusal_of (CommentPiece text) = if is_comment_text text then None else Some CommentText
