use Rattle.std.proofs.Common.{◌≡◌, false, true, length, sym, ◌∙◌, rules, arith}
use Rattle.std.specs.Prelude.{◌==◌}
use Rattle.html5policy.proofs.Splits.{some-length, words-last, words-none, words-space, words-word}
use Rattle.html5policy.proofs.words.next_word.Goals as goal

pub returns-then-not-is_empty : goal.returns-then-not-is_empty
returns-then-not-is_empty c =
    let some : (length c.in-Some.word.now == 0) ≡ false = search rules in
    let found = words-word c.loop-word.left.now c.in-Some.word c.in-Some.rest c.in-Some.ensures.cases some in
    (c.loop-word.invariant.1 ∙ found.0, omega (arith, found.1, c.loop-word.invariant.2))

pub loop-word-preserved : goal.loop-word-preserved
loop-word-preserved c =
    let none : (length c.in-Some.word.now == 0) ≡ true = search rules in
    let found = words-space c.loop-word.left.now c.in-Some.word c.in-Some.rest c.in-Some.ensures.cases none in
    (search rules, c.loop-word.invariant.1 ∙ found.0, omega (arith, found.1, c.loop-word.invariant.2))

pub returns-then-is_empty : goal.returns-then-is_empty
returns-then-is_empty c =
    c.loop-word.invariant.1 ∙ words-none c.loop-word.left.now c.in_default.ensures.cases (sym c.is_empty-2.ensures ∙ c.if-is_empty.true)

pub returns : goal.returns
returns c =
    let some = sym c.is_empty-2.ensures ∙ c.if-is_empty.false in (
      c.loop-word.invariant.1 ∙ words-last c.loop-word.left.now c.in_default.ensures.cases some,
      omega (arith, some-length c.loop-word.left.now some, c.loop-word.invariant.2),
    )

pub loop-word-smaller : goal.loop-word-smaller
loop-word-smaller c =
    let none : (length c.in-Some.word.now == 0) ≡ true = search rules in
    (words-space c.loop-word.left.now c.in-Some.word c.in-Some.rest c.in-Some.ensures.cases none).1
