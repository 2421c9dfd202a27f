use Rattle.std.proofs.Common.{◌↔◌, false, IsTrue, All, refl, sym, subst, ◌∙◌}
use Rattle.std.proofs.lemmas.Bool.{false≢true}
use Rattle.std.proofs.lemmas.List.{take_all}
use Rattle.std.proofs.lemmas.List.Elements.{All-more}
use Rattle.html5ever_interface.proofs.AttributeCounts.{IsAsOften, counts_from_permutation, length_from_permutation, permuted_from_counts}
use Rattle.html5ever_interface.proofs.interface.token.is_permutation.Goals as goal

refused : {P : Type 0} → ¬ P → IsTrue false ↔ P
refused never = (λ e. absurd (false≢true e), λ p. absurd (never p))

pub returns-then-attrs-others : goal.returns-then-attrs-others
returns-then-attrs-others g c = refused (λ permuted. c.if-attrs-others.true (length_from_permutation _ _ permuted))

pub returns-then-count_of : goal.returns-then-count_of
returns-then-count_of g c = refused (λ permuted. c.if-count_of.true
    (c.count_of.ensures ∙ counts_from_permutation _ _ c.attribute-item.result permuted ∙ sym c.count_of-in-loop-attribute.ensures))

pub loop-attribute-preserved : goal.loop-attribute-preserved
loop-attribute-preserved g c =
    All-more (IsAsOften c.args.attrs.now c.args.others.now) c.args.attrs.now c.loop-attribute.attribute-index c.attribute-item.result c.loop-attribute-test.true c.loop-attribute.invariant
    (subst (IsAsOften c.args.attrs.now c.args.others.now) c.attribute-item.is
    (sym c.count_of.ensures ∙ c.if-count_of.false ∙ c.count_of-in-loop-attribute.ensures))

pub returns : goal.returns
returns g c = (
  λ done. permuted_from_counts c.args.attrs.now c.args.others.now c.if-attrs-others.false
      (subst (All (IsAsOften c.args.attrs.now c.args.others.now))
      (take_all _ c.args.attrs.now c.loop-attribute-test.false) c.loop-attribute.invariant),
  λ permuted. refl,
)
