use Rattle.std.proofs.Common.{◌+◌, sym, ap, ◌∙◌, drop}
use Rattle.std.specs.Prelude.{◌||◌, nat_eq}
use Rattle.std.specs.List.{starts_with}
use Rattle.html5grammar.specs.Comment.{occurs}
use Rattle.html5serialize.proofs.Words.{occurs-next, occurs-none, rest-all}
use Rattle.html5serialize.proofs.names.occurs.Goals as goal

pub returns-then-starts_with : goal.returns-then-starts_with
returns-then-starts_with c =
    let i = c.loop-at.at in
    let word = c.args.word.now in
    sym (c.loop-at.invariant
    ∙ occurs-next word c.args.text.now i c.loop-at-test.true
    ∙ ap (λ l. starts_with nat_eq l word || occurs word (drop (i + 1) c.args.text.now)) (sym (rest-all i c.args.text.now))
    ∙ ap (λ b. b || occurs word (drop (i + 1) c.args.text.now)) (sym c.starts_with.ensures.value ∙ c.if-starts_with.true))

pub loop-at-preserved : goal.loop-at-preserved
loop-at-preserved c =
    let i = c.loop-at.at in
    let word = c.args.word.now in
    c.loop-at.invariant
    ∙ occurs-next word c.args.text.now i c.loop-at-test.true
    ∙ ap (λ l. starts_with nat_eq l word || occurs word (drop (i + 1) c.args.text.now)) (sym (rest-all i c.args.text.now))
    ∙ ap (λ b. b || occurs word (drop (i + 1) c.args.text.now)) (sym c.starts_with.ensures.value ∙ c.if-starts_with.false)

pub returns : goal.returns
returns c = sym (c.loop-at.invariant ∙ occurs-none c.args.word.now c.args.text.now c.loop-at.at c.loop-at-test.false)
