use Rattle.std.proofs.Common.{◌≡◌, Bool, true, false, [], ◌∷◌, refl, ◌∙◌}
use Rattle.std.specs.Prelude.{◌&&◌, codes}
use Rattle.std.specs.Str.{chars}
use Rattle.html5write.specs.Pieces.{NameAndValue, are_distinct, can_write, is_attribute, is_tag_name}
use Rattle.html5write.specs.Pieces.Piece.{StartTagPiece}
use Rattle.html5write.specs.Writing as writing
use Rattle.html5rewrite.proofs.attributes.is_attribute.Goals as goal

twice-true : (b : Bool) → ((b && true) && true) ≡ b
twice-true true = refl
twice-true false = refl

-- in a tag of its own
can_write-alone : (a : NameAndValue) → can_write (StartTagPiece (chars (codes "a")) (a ∷ [])) ≡ is_attribute a
unfolding chars is_tag_name are_distinct
can_write-alone a = twice-true (is_attribute a)

pub returns : goal.returns
returns c = c.can_write.ensures ∙ can_write-alone (writing.attribute_of c.args.attribute.now)
