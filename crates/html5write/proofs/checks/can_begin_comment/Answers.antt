use Rattle.std.proofs.Common.{sym, ap, ◌∙◌}
use Rattle.std.specs.Prelude.{◌&&◌, ◌==◌, not}
use Rattle.std.specs.Str.Iter.{chars_rest}
use Rattle.std.proofs.lemmas.Bool.{eq-eqb, ne_eqb}
use Rattle.std.proofs.lemmas.List.{nil_from_length}
use Rattle.html5reading.specs.Characters.{greater_than, hyphen}
use Rattle.html5write.proofs.FirstCharacters.{comment-first, comment-none}
use Rattle.html5write.proofs.checks.can_begin_comment.Goals as goal

pub returns-then-first-ne62 : goal.returns-then-first-ne62
returns-then-first-ne62 c =
    sym (comment-first c.args.text.now (chars_rest c.next.new.self) c.in-Some.first c.utf8.text (sym c.chars.ensures.rest ∙ c.in-Some.ensures.steps.0)
    ∙ ap (λ b. not b && not (c.in-Some.first == hyphen)) (ne_eqb c.in-Some.first greater_than c.if-first-ne62.true))

pub returns-else-first-ne62 : goal.returns-else-first-ne62
returns-else-first-ne62 c =
    let is = eq-eqb c.in-Some.first greater_than c.if-first-ne62.false in
    ap not is
    ∙ sym (comment-first c.args.text.now (chars_rest c.next.new.self) c.in-Some.first c.utf8.text (sym c.chars.ensures.rest ∙ c.in-Some.ensures.steps.0)
    ∙ ap (λ b. not b && not (c.in-Some.first == hyphen)) is)

pub returns-in-None : goal.returns-in-None
returns-in-None c = sym (comment-none c.args.text.now (sym c.chars.ensures.rest ∙ nil_from_length (chars_rest c.chars.result) c.in-None.ensures.steps.0.0))
