use Rattle.std.proofs.Common.{◌≡◌, drop}
use Rattle.html5programs.specs.Words.{known_options, wants_word}
use Rattle.html5programs.proofs.words.wants_word.Given as goal

abbrev pub invariant-loop-choice : goal.invariant-loop-choice
invariant-loop-choice l =
    wants_word (known_options l.choices) l.option ≡ wants_word (known_options (drop l.choice-index l.choices)) l.option
