use Rattle.std.proofs.Common.{map, true, false, sym, ◌∙◌}
use Rattle.markup5ever.specs.Names.{attribute_of}
use Rattle.tree_names.proofs.MathKinds.{math-other}
use Rattle.tree_names.proofs.adjusting.math_kind.Goals as goal

pub returns-then-eq : goal.returns-then-eq
returns-then-eq g c =
    c.annotation_kind.ensures
    ∙ sym (math-other c.args.name.now (map attribute_of c.args.attributes.now) true (sym c.is_text_point.ensures ∙ c.if-is_text_point.false) (sym c.eq.ensures ∙ c.if-eq.true))

pub returns-else-eq : goal.returns-else-eq
returns-else-eq g c =
    sym (math-other c.args.name.now (map attribute_of c.args.attributes.now) false (sym c.is_text_point.ensures ∙ c.if-is_text_point.false) (sym c.eq.ensures ∙ c.if-eq.false))
