use Rattle.std.proofs.Common.{◌≡◌, ◌++◌, string_bytes}
use Rattle.std.specs.Prelude.{encode_utf8_all}
use Rattle.std.specs.Str.{IsUtf8, chars}
use Rattle.std.specs.Str.Iter.{chars_rest}
use Rattle.html5serialize.specs.Escapes.{escaped_text_by}
use Rattle.html5serialize.proofs.escaping.push_text_by.Given as goal

-- what was appended and what the iterator has left are the text before and the text
abbrev pub invariant-loop-c : goal.invariant-loop-c
invariant-loop-c g l =
    (goal.iterator-loop-c g).can_next l.c-iterator × (goal.iterator-loop-c g).is_finite l.c-iterator
    × IsUtf8 (chars_rest l.c-iterator)
    × (string_bytes l.out ++ encode_utf8_all (escaped_text_by l.escapes (chars (chars_rest l.c-iterator))) ≡ string_bytes l.initial.out ++ encode_utf8_all (escaped_text_by l.escapes (chars l.text)))
