use Rattle.std.proofs.Common.{sym, ◌∙◌, length}
use Rattle.std.proofs.lemmas.Bool.{eqb-false}
use Rattle.html5write.proofs.SmallWords.{small-word}
use Rattle.html5write.proofs.checks.is_small_word.Goals as goal

pub returns-then-not-is_empty : goal.returns-then-not-is_empty
returns-then-not-is_empty c =
    let some = eqb-false (length c.args.text.now) 0 (sym c.is_empty.ensures ∙ c.if-not-is_empty.true) in
    λ all. small-word c.args.text.now some (sym c.has_small_letters.ensures ∙ all)
