use Rattle.std.proofs.Common.{sym, ◌∙◌}
use Rattle.html5cleaner.proofs.Printing.{reads_printed, items_printed, stops_printed}
use Rattle.html5cleaner.specs.Cleaning.{standing_of}
use Rattle.html5cleaner.proofs.printed_page.print_cleaned.Goals as goal

pub returns-in-Ok-clause-finishes : goal.returns-in-Ok-clause-finishes
returns-in-Ok-clause-finishes g c =
    reads_printed c.args.references.now _ _ (standing_of c.args.cleaner) _ (rw c.in-Ok.is at c.read_printed-cleaner.ensures.finishes)

pub returns-in-Err-clause-beginning : goal.returns-in-Err-clause-beginning
returns-in-Err-clause-beginning g c =
    stops_printed c.args.references.now _ _ (standing_of c.args.cleaner) _ (rw c.in-Err.is at c.read_printed-cleaner.ensures.beginning)

pub returns-in-Err-clause-not_utf8 : goal.returns-in-Err-clause-not_utf8
returns-in-Err-clause-not_utf8 g c = λ place is. c.read_printed-cleaner.ensures.not_utf8 place (c.in-Err.is ∙ is)

pub returns-in-Ok-clause-items : goal.returns-in-Ok-clause-items
returns-in-Ok-clause-items g c = items_printed c.args.references.now _ c.table_laws.ensures (returns-in-Ok-clause-finishes g c)

pub returns-in-Err-clause-no_fault : goal.returns-in-Err-clause-no_fault
returns-in-Err-clause-no_fault g c = λ other. c.read_printed-cleaner.ensures.no_fault (λ place is. other place (sym c.in-Err.is ∙ is))

pub returns-in-Ok-clause-no_fault : goal.returns-in-Ok-clause-no_fault
returns-in-Ok-clause-no_fault g c = λ other. c.read_printed-cleaner.ensures.no_fault (λ place is. other place (sym c.in-Ok.is ∙ is))

pub returns-in-Err-clause-too_long : goal.returns-in-Err-clause-too_long
returns-in-Err-clause-too_long g c = λ is. c.read_printed-cleaner.ensures.too_long (c.in-Err.is ∙ is)
