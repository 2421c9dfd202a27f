use Rattle.std.proofs.Common.{◌+◌, sym, ap, ◌∙◌, drop}
use Rattle.std.specs.Prelude.{◌||◌}
use Rattle.html5serialize.specs.RawTexts.{begins_end, has_end}
use Rattle.html5serialize.proofs.Words.{end-next, end-none, rest-all}
use Rattle.html5serialize.proofs.raw_texts.has_end.Goals as goal

pub returns-then-begins_end : goal.returns-then-begins_end
returns-then-begins_end c =
    let i = c.loop-at.at in
    let name = c.args.name.now in
    sym (c.loop-at.invariant
    ∙ end-next name c.args.text.now i c.loop-at-test.true
    ∙ ap (λ l. begins_end name l || has_end name (drop (i + 1) c.args.text.now)) (sym (rest-all i c.args.text.now))
    ∙ ap (λ b. b || has_end name (drop (i + 1) c.args.text.now)) (sym c.begins_end.ensures ∙ c.if-begins_end.true))

pub loop-at-preserved : goal.loop-at-preserved
loop-at-preserved c =
    let i = c.loop-at.at in
    let name = c.args.name.now in
    c.loop-at.invariant
    ∙ end-next name c.args.text.now i c.loop-at-test.true
    ∙ ap (λ l. begins_end name l || has_end name (drop (i + 1) c.args.text.now)) (sym (rest-all i c.args.text.now))
    ∙ ap (λ b. b || has_end name (drop (i + 1) c.args.text.now)) (sym c.begins_end.ensures ∙ c.if-begins_end.false)

pub returns : goal.returns
returns c = sym (c.loop-at.invariant ∙ end-none c.args.name.now c.args.text.now c.loop-at.at c.loop-at-test.false)
