use Rattle.std.proofs.Common.{[], ◌∷◌, ◌++◌, ap, ◌∙◌, rules}
use Rattle.std.specs.Str.{chars}
use Rattle.html5write.specs.Pieces.Piece.{EndTagPiece}
use Rattle.html5cleaner.proofs.EndTags.{next-end_tag}
use Rattle.html5cleaner.proofs.balance.write_end_tags.Goals as goal

pub loop-wanted-preserved : goal.loop-wanted-preserved
loop-wanted-preserved g c =
    next-end_tag c.loop-wanted.page c.end_tag.new.self c.loop-wanted.wanted c.loop-wanted.left.now c.in-Some.outer.now c.in-Some.name.now
    (search rules)
    (search rules)
    (c.in_ok-end_tag.ensures.written ∙ ap (λ text. c.loop-wanted.page ++ EndTagPiece (chars text) ∷ []) c.as_str.ensures.value)
    ∙ c.loop-wanted.invariant
