use Rattle.html5edit.proofs.PagesRead.{on-finished, on-stopped}
use Rattle.html5edit.proofs.edit_pages.EditPagesFilter.read_page.Goals as goal

pub returns-clause-finishes : goal.returns-clause-finishes
returns-clause-finishes g c =
    on-finished c.args.references.now c.args.self.changes c.args.self.bases _ _ c.edit_page-printer.result.1 c.args.self.printer.printed c.edit_page-printer.result.0.printed
    c.edit_page-printer.ensures.finishes

pub returns-clause-beginning : goal.returns-clause-beginning
returns-clause-beginning g c =
    on-stopped c.args.references.now c.args.self.changes c.args.self.bases _ _ c.edit_page-printer.result.1 c.args.self.printer.printed c.edit_page-printer.result.0.printed
    c.edit_page-printer.ensures.beginning
