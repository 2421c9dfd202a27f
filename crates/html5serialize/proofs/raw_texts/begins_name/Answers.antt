use Rattle.std.proofs.Common.{◌≡◌, ◌+◌, length, get_or, drop, sym, ap, ◌∙◌, arith}
use Rattle.std.specs.Prelude.{◌&&◌, ◌==◌, false, nat_lt}
use Rattle.std.proofs.lemmas.Bool.{eq-eqb, ne_eqb}
use Rattle.std.proofs.lemmas.Bool.Decides.{nat_tests}
use Rattle.html5serialize.specs.RawTexts.{begins_name}
use Rattle.html5serialize.proofs.Words.{name-next, name-short, name-done, name-none}
use Rattle.html5serialize.proofs.raw_texts.begins_name.Goals as goal

pub returns-then-at-text : goal.returns-then-at-text
returns-then-at-text c = sym (c.loop-at.invariant.0 ∙ name-short c.args.name.now c.args.text.now c.loop-at.at c.loop-at-test.true c.if-at-text.true)

pub returns-then-to_ascii_lowercase-name : goal.returns-then-to_ascii_lowercase-name
returns-then-to_ascii_lowercase-name c =
    let i = c.loop-at.at in
    let name = c.args.name.now in
    let text = c.args.text.now in
    sym (c.loop-at.invariant.0
    ∙ name-next name text i c.loop-at-test.true c.if-at-text.false
    ∙ ap (λ b. (b == get_or name i 0) && begins_name (drop (i + 1) name) (drop (i + 1) text)) (sym c.to_ascii_lowercase.ensures.value)
    ∙ ap (λ b. b && begins_name (drop (i + 1) name) (drop (i + 1) text)) (ne_eqb c.to_ascii_lowercase.result (get_or name i 0) c.if-to_ascii_lowercase-name.true))

pub loop-at-preserved : goal.loop-at-preserved
loop-at-preserved c =
    let i = c.loop-at.at in
    let name = c.args.name.now in
    let text = c.args.text.now in (
      c.loop-at.invariant.0
          ∙ name-next name text i c.loop-at-test.true c.if-at-text.false
          ∙ ap (λ b. (b == get_or name i 0) && begins_name (drop (i + 1) name) (drop (i + 1) text)) (sym c.to_ascii_lowercase.ensures.value)
          ∙ ap (λ b. b && begins_name (drop (i + 1) name) (drop (i + 1) text)) (eq-eqb c.to_ascii_lowercase.result (get_or name i 0) c.if-to_ascii_lowercase-name.false),
      omega (arith, c.if-at-text.false),
    )

pub returns-then-text-name : goal.returns-then-text-name
returns-then-text-name c =
    let name = c.args.name.now in
    let text = c.args.text.now in
    let at_end : c.loop-at.at ≡ length name = omega (arith, c.loop-at-test.false, c.loop-at.auto.at-end) in
    c.ends_name.ensures
    ∙ sym (c.loop-at.invariant.0
    ∙ ap (λ i. begins_name (drop i name) (drop i text)) at_end
    ∙ name-done name text (length name) (omega arith) c.if-text-name.true)

pub returns-else-text-name : goal.returns-else-text-name
returns-else-text-name c =
    let name = c.args.name.now in
    let text = c.args.text.now in
    let at_end : c.loop-at.at ≡ length name = omega (arith, c.loop-at-test.false, c.loop-at.auto.at-end) in
    let none : nat_lt (length name) (length text) ≡ false = grind (arith, nat_tests) in
    none
    ∙ sym (c.loop-at.invariant.0
    ∙ ap (λ i. begins_name (drop i name) (drop i text)) at_end
    ∙ name-none name text (length name) (omega arith) c.if-text-name.false)
