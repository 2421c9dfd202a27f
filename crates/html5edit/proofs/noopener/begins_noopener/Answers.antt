use Rattle.std.proofs.Common.{◌∙◌, ap, sym, length, arith}
use Rattle.std.specs.Prelude.{◌-◌, ◌&&◌, drop}
use Rattle.std.proofs.lemmas.List.{length-drop, take_all}
use Rattle.html5edit.specs.Changes.{begins_noopener, ends_word}
use Rattle.html5edit.proofs.noopener.begins_noopener.Goals as goal

pub returns-then-starts_with : goal.returns-then-starts_with
unfolding begins_noopener
returns-then-starts_with c =
    c.ends_word.ensures
    ∙ ap ends_word (take_all (length c.args.bytes.now - 8) (drop 8 c.args.bytes.now) (let len = length-drop 8 c.args.bytes.now in omega (arith, len)))
    ∙ ap (λ b. b && ends_word (drop 8 c.args.bytes.now)) (sym (sym c.starts_with.ensures.value ∙ c.if-starts_with.true))

pub returns-else-starts_with : goal.returns-else-starts_with
unfolding begins_noopener
returns-else-starts_with c =
    c.if-starts_with.false ∙ ap (λ b. b && ends_word (drop 8 c.args.bytes.now)) (sym (sym c.starts_with.ensures.value ∙ c.if-starts_with.false))
