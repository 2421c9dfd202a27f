use Rattle.std.proofs.Common.{sym, ◌∙◌}
use Rattle.tree_names.proofs.NameTables.{ordinary-empty, ordinary-text}
use Rattle.tree_names.proofs.known.KnownName.find.Goals as goal

pub returns-then-is_empty-clause-none : goal.returns-then-is_empty-clause-none
returns-then-is_empty-clause-none c = ordinary-empty c.args.text.now (sym c.is_empty.ensures ∙ c.if-is_empty.true)

pub returns-else-eq-clause-none : goal.returns-else-eq-clause-none
returns-else-eq-clause-none c =
    let f = c.in_slot-name.ensures in
    ordinary-text f.0 c.args.text.now c.as_str.result.now c.as_bytes.result.now c.slot_of.result f.1.0 (c.as_str.ensures ∙ f.1.1) c.slot_of.ensures
    c.as_bytes.ensures.value (sym c.eq.ensures ∙ c.if-eq.false)
