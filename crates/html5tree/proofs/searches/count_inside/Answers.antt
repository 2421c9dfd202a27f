use Rattle.std.proofs.Common.{sym, ◌∙◌}
use Rattle.html5tree.proofs.OpenNames.{inside-none, inside-within}
use Rattle.html5tree.specs.Searches.{is_wanted}
use Rattle.html5tree.proofs.searches.count_inside.Goals as goal

pub returns-in-0-clause-value : goal.returns-in-0-clause-value
returns-in-0-clause-value c = inside-none (is_wanted c.args.wanted) c.args.opened.now (sym c.in-0.is ∙ c.through.ensures.value)

pub returns-in_default-clause-within : goal.returns-in_default-clause-within
returns-in_default-clause-within c = inside-within (is_wanted c.args.wanted) c.args.opened.now c.through.result c.through.ensures.value
