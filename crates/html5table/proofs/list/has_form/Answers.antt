use Rattle.std.proofs.Common.{sym, ap, ◌∙◌}
use Rattle.std.specs.Option.{is_some}
use Rattle.html5table.proofs.Lists.{listed-empty, listed-texts}
use Rattle.html5table.proofs.list.has_form.Goals as goal

pub returns-then-is_empty : goal.returns-then-is_empty
returns-then-is_empty c =
    c.if-is_empty.true ∙ sym (ap is_some (listed-empty c.args.list.now (sym c.is_empty.ensures ∙ c.if-is_empty.true)))

pub returns-else-is_empty : goal.returns-else-is_empty
returns-else-is_empty c =
    c.are_entries.ensures ∙ sym (ap is_some (listed-texts c.args.list.now (sym c.is_empty.ensures ∙ c.if-is_empty.false)))
