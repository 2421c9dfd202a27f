use Rattle.std.proofs.Common.{sym, ap, ◌∙◌}
use Rattle.std.specs.Prelude.{is_some}
use Rattle.html5partial.proofs.Sections.{section-empty, section-reads_runs}
use Rattle.html5partial.proofs.runs.section_ends.Goals as goal

pub returns-then-is_empty-clause-has_runs : goal.returns-then-is_empty-clause-has_runs
returns-then-is_empty-clause-has_runs c =
    sym (ap is_some (section-empty c.args.text.now (sym c.is_empty.ensures ∙ c.if-is_empty.true)))

pub returns-clause-has_runs : goal.returns-clause-has_runs
returns-clause-has_runs c =
    sym (ap is_some (section-reads_runs c.args.text.now c.utf8.text (sym c.is_empty.ensures ∙ c.if-is_empty.false)))
