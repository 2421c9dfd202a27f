use Rattle.std.proofs.Common.{ap, sym, ◌∙◌}
use Rattle.std.specs.List.{list_all}
use Rattle.html5tree.specs.Fitting.{holds_parts, is_space}
use Rattle.html5tree.specs.Searches.{names_open}
use Rattle.html5tree.proofs.CodePlans.{plan-cell-text, plan-flow-text, plan-space}
use Rattle.html5tree.proofs.normal.plan_for_text.Goals as goal

pub returns-then-not-holds_parts : goal.returns-then-not-holds_parts
returns-then-not-holds_parts c =
    c.kept.ensures ∙ plan-flow-text c.args.limit (names_open c.args.opened.now) c.args.text.now
    (ap holds_parts (sym c.kind_under.ensures) ∙ (sym c.holds_parts.ensures ∙ c.if-not-holds_parts.true))

pub returns-then-is_white_space : goal.returns-then-is_white_space
returns-then-is_white_space c =
    c.kept-then-is_white_space.ensures ∙ plan-space c.args.limit (names_open c.args.opened.now) c.args.text.now
    (ap holds_parts (sym c.kind_under.ensures) ∙ (sym c.holds_parts.ensures ∙ c.if-not-holds_parts.false))
    (ap (list_all is_space) (sym c.as_bytes.ensures.value) ∙ (sym c.is_white_space.ensures ∙ c.if-is_white_space.true))

pub returns : goal.returns
returns c =
    c.cell_text_plan.ensures ∙ plan-cell-text c.args.limit (names_open c.args.opened.now) c.args.text.now
    (ap holds_parts (sym c.kind_under.ensures) ∙ (sym c.holds_parts.ensures ∙ c.if-not-holds_parts.false))
    (ap (list_all is_space) (sym c.as_bytes.ensures.value) ∙ (sym c.is_white_space.ensures ∙ c.if-is_white_space.false))
