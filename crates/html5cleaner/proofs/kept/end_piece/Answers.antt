use Rattle.std.proofs.Common.{[], chars, encode_utf8_all, sym, ap, ◌∙◌}
use Rattle.std.specs.Prelude.{if◌then◌else◌}
use Rattle.std.proofs.lemmas.Str.{encodes-chars}
use Rattle.html5write.specs.Pieces.Piece.{StartTagPiece, EndTagPiece}
use Rattle.html5cleaner.specs.Clean.{is_break}
use Rattle.html5cleaner.proofs.kept.end_piece.Goals as goal

pub returns-then-eq : goal.returns-then-eq
returns-then-eq c =
    sym (ap (λ b. if b then StartTagPiece (chars c.args.name.now) [] else EndTagPiece (chars c.args.name.now))
    (ap is_break (encodes-chars c.args.name.now c.utf8.name) ∙ sym c.eq.ensures ∙ c.if-eq.true))

pub returns : goal.returns
returns c =
    sym (ap (λ b. if b then StartTagPiece (chars c.args.name.now) [] else EndTagPiece (chars c.args.name.now))
    (ap is_break (encodes-chars c.args.name.now c.utf8.name) ∙ sym c.eq.ensures ∙ c.if-eq.false))
