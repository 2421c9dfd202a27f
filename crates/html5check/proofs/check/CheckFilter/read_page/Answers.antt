use Rattle.std.proofs.Common.{refl, string_bytes}
use Rattle.html5check.proofs.WholePages.{page-unchecked, stops-whole}
use Rattle.html5check.specs.Making.{checks_of}
use Rattle.html5check.proofs.check.CheckFilter.read_page.Goals as goal

pub returns-in-Err-clause-beginning : goal.returns-in-Err-clause-beginning
returns-in-Err-clause-beginning g c =
    page-unchecked g.P.Report.printed c.args.references.now _ _ (checks_of c.args.self) (checks_of c.args.self)
    (g.P.Report.nothing c.args.self.has_found (string_bytes c.args.self.file)) c.in-Err.ensures.stops refl

pub returns-clause-beginning : goal.returns-clause-beginning
returns-clause-beginning g c =
    page-unchecked g.P.Report.printed c.args.references.now _ _ (checks_of c.args.self) (checks_of c.check_text.new.self)
    (g.P.Report.nothing c.args.self.has_found (string_bytes c.args.self.file)) (stops-whole _ _ _ c.in-Ok.ensures.whole) c.in-Err-check_text.ensures.err
