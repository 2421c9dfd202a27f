use Rattle.std.proofs.Common.{◌≡◌}
use Rattle.std.specs.Str.{IsUtf8, chars}
use Rattle.std.specs.Str.Iter.{chars_rest}
use Rattle.html5write.specs.Pieces.{has_lone_dashes}
use Rattle.html5write.proofs.LoneDashes.{lone_from}
use Rattle.html5write.proofs.checks.has_lone_dashes.Given as goal

abbrev pub invariant-loop-c : goal.invariant-loop-c
invariant-loop-c l =
    (goal.iterator-loop-c).can_next l.c-iterator × (goal.iterator-loop-c).is_finite l.c-iterator
    × IsUtf8 (chars_rest l.c-iterator)
    × (has_lone_dashes (chars l.text) ≡ lone_from l.after_dash (chars (chars_rest l.c-iterator)))
