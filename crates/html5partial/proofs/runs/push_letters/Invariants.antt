use Rattle.std.proofs.Common.{◌≡◌, ◌++◌, string_bytes}
use Rattle.std.specs.Prelude.{flat_map}
use Rattle.std.specs.Str.{IsUtf8, chars}
use Rattle.std.specs.Str.Iter.{chars_rest}
use Rattle.html5reading.specs.Characters.{name_bytes}
use Rattle.html5partial.proofs.runs.push_letters.Given as goal

-- the name and what the iterator has left are the name before and the run
abbrev pub invariant-loop-c : goal.invariant-loop-c
invariant-loop-c g l =
    (goal.iterator-loop-c g).can_next l.c-iterator × (goal.iterator-loop-c g).is_finite l.c-iterator
    × IsUtf8 (chars_rest l.c-iterator)
    × (string_bytes l.name ++ flat_map name_bytes (chars (chars_rest l.c-iterator)) ≡ string_bytes l.initial.name ++ flat_map name_bytes (chars l.run))
