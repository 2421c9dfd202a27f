use Rattle.std.proofs.Common.{◌≡◌}
use Rattle.std.specs.Str.{IsUtf8, chars}
use Rattle.std.specs.Str.Iter.{chars_rest}
use Rattle.html5places.specs.Positions.{past_characters, position_after}
use Rattle.html5reading.specs.NormalisedText.{with_line_feeds}
use Rattle.html5places.proofs.positions.position_after.Given as goal

abbrev pub invariant-loop-c : goal.invariant-loop-c
invariant-loop-c l =
    (goal.iterator-loop-c).can_next l.c-iterator × (goal.iterator-loop-c).is_finite l.c-iterator
    × IsUtf8 (chars_rest l.c-iterator)
    × (past_characters l.position (with_line_feeds l.after_cr (chars (chars_rest l.c-iterator))) ≡ position_after (chars l.text))
