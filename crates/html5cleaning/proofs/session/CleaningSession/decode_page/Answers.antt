use Rattle.std.proofs.Common.{Some, ap, ◌∙◌}
use Rattle.html5sniffing.specs.PageDecoding.{PageDecoding}
use Rattle.html5cleaning.proofs.Fed.{decodes_from}
use Rattle.html5cleaning.proofs.session.CleaningSession.decode_page.Goals as goal

pub returns-clause-fed : goal.returns-clause-fed
returns-clause-fed g c =
    decodes_from c.args.said _ _ c.requires
    (c.set_page_decoder-2.ensures
    ∙ ap (λ (p : PageDecoding). record c.args.self.now { intake = record c.args.self.now.intake { page = Some p } }) c.new.ensures)
