use Rattle.std.proofs.Common.{◌≡◌, drop, map, string_bytes}
use Rattle.html5programs.specs.Words.{asked_after, asked_by, known_options, nothing_asked}
use Rattle.html5programs.proofs.words.words_of.Given as goal

abbrev pub invariant-loop-word : goal.invariant-loop-word
invariant-loop-word g l =
    asked_after (known_options l.choices) (asked_by l.asked) (map string_bytes (drop l.word-index l.words))
    ≡ asked_after (known_options l.choices) nothing_asked (map string_bytes l.words)
