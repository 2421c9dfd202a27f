use Rattle.std.proofs.Common.{length, refl, ap, arith}
use Rattle.std.specs.Str.{IsCharBoundary}
use Rattle.std.proofs.lemmas.Str.{IsUtf8-take, IsUtf8-drop}
use Rattle.html5cli.proofs.cuts.place_after.Goals as goal

pub returns-then-left-eq0-clause-boundary : goal.returns-then-left-eq0-clause-boundary
returns-then-left-eq0-clause-boundary c =
    let text = c.args.text.now in
    let boundary : IsCharBoundary text c.loop-at.at = (omega (arith, c.loop-at-test.true, ap length c.as_bytes-bytes.ensures.value), λ within. rw c.as_bytes-bytes.ensures.value at (c.if-begins_character.ensures refl)) in
    (IsUtf8-take text c.loop-at.at c.utf8.text boundary, IsUtf8-drop text c.loop-at.at c.utf8.text boundary)
