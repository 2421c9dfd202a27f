use Rattle.std.proofs.Common.{◌+◌, get_or, sym, ap, ◌∙◌, drop}
use Rattle.std.specs.Prelude.{◌&&◌, ◌||◌, ◌==◌}
use Rattle.std.proofs.lemmas.Bool.{eq-eqb, ne_eqb}
use Rattle.std.proofs.Math.Bool.{and-false}
use Rattle.html5reading.specs.Characters.{less_than}
use Rattle.html5serialize.specs.RawTexts.{begins_name, has_start}
use Rattle.html5serialize.proofs.Words.{start-next, start-none, rest-all}
use Rattle.html5serialize.proofs.raw_texts.has_start.Goals as goal
use Rattle.html5serialize.proofs.raw_texts.has_start.Goals.{else-text-at-eq60-via-then-text-at-eq60+else-begins_name, else-text-at-eq60-via-else-text-at-eq60}

pub returns-then-begins_name : goal.returns-then-begins_name
returns-then-begins_name c =
    let i = c.loop-at.at in
    let name = c.args.name.now in
    let text = c.args.text.now in
    sym (c.loop-at.invariant
    ∙ start-next name text i c.loop-at-test.true
    ∙ ap (λ b. (b && begins_name name (drop (i + 1) text)) || has_start name (drop (i + 1) text)) (eq-eqb (get_or text i 0) less_than c.if-text-at-eq60.true)
    ∙ ap (λ l. begins_name name l || has_start name (drop (i + 1) text)) (sym (rest-all (i + 1) text))
    ∙ ap (λ b. b || has_start name (drop (i + 1) text)) (sym c.begins_name.ensures ∙ c.if-begins_name.true))

pub loop-at-preserved : goal.loop-at-preserved
loop-at-preserved c =
    let i = c.loop-at.at in
    let name = c.args.name.now in
    let text = c.args.text.now in
    c.loop-at.invariant
    ∙ start-next name text i c.loop-at-test.true
    ∙ elim c.else-text-at-eq60.branch [
      | else-text-at-eq60-via-then-text-at-eq60+else-begins_name w ↦
          ap (λ l. ((get_or text i 0 == less_than) && begins_name name l) || has_start name (drop (i + 1) text)) (sym (rest-all (i + 1) text))
          ∙ ap (λ b. ((get_or text i 0 == less_than) && b) || has_start name (drop (i + 1) text)) (sym w.begins_name.ensures ∙ w.if-begins_name.false)
          ∙ ap (λ b. b || has_start name (drop (i + 1) text)) (and-false (get_or text i 0 == less_than))
      | else-text-at-eq60-via-else-text-at-eq60 w ↦
          ap (λ b. (b && begins_name name (drop (i + 1) text)) || has_start name (drop (i + 1) text)) (ne_eqb (get_or text i 0) less_than w.if-text-at-eq60.false)
    ]

pub returns : goal.returns
returns c = sym (c.loop-at.invariant ∙ start-none c.args.name.now c.args.text.now c.loop-at.at c.loop-at-test.false)
