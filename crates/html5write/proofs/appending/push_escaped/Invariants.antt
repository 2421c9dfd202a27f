use Rattle.std.proofs.Common.{◌≡◌, ◌++◌, length, string_bytes}
use Rattle.std.specs.Prelude.{encode_utf8_all}
use Rattle.std.specs.Str.{IsUtf8, chars}
use Rattle.markup5ever.specs.Lists.{BeginsWith}
use Rattle.html5write.specs.Escaped.{escaped_text}
use Rattle.html5write.proofs.appending.push_escaped.Given as goal

-- what was appended and what is left are the text before and the text, and the text before is still in front
abbrev pub invariant-loop-characters : goal.invariant-loop-characters
invariant-loop-characters g l =
    IsUtf8 l.rest
    × (string_bytes l.out ++ encode_utf8_all (escaped_text (chars l.rest)) ≡ string_bytes l.initial.out ++ encode_utf8_all (escaped_text (chars l.text)))
    × BeginsWith (string_bytes l.out) (string_bytes l.initial.out)

abbrev pub decreases-loop-characters : goal.decreases-loop-characters
decreases-loop-characters g l = length l.rest
