use Rattle.std.proofs.Common.{◌≡◌, Some, ap, ◌∙◌}
use Rattle.std.specs.List.{list_all}
use Rattle.html5stream.specs.Pages.{runs_after, runs_page}
use Rattle.html5cleaner.specs.Allowed.{is_clean}
use Rattle.html5cleaner.specs.Clean.{Cleaned, at_start, clean_step}
use Rattle.html5cleaner.proofs.Printing.{clean-handed}
use Rattle.html5cleaner.proofs.WholeTexts.{read-whole}
use Rattle.html5cleaner.proofs.page.clean_text.Goals as goal

pub returns-in-Ok-clause-kept : goal.returns-in-Ok-clause-kept
returns-in-Ok-clause-kept g c =
    c.into_page.ensures.page
    ∙ ap (λ (cleaned : Cleaned). cleaned.pieces)
    (read-whole (runs_after clean_step c.args.references.now) c.args.text.now _
    (rw c.new-source.ensures.inner (ap Some c.as_bytes.ensures.value))
    (rw c.in-Ok.is at c.clean_page-cleaner.ensures.finishes))

pub returns-in-Ok-clause-clean : goal.returns-in-Ok-clause-clean
returns-in-Ok-clause-clean g c =
    let kept : c.into_page.result ≡ (runs_after clean_step c.args.references.now (at_start c.args.policy.now) c.args.text.now).pieces =
    c.into_page.ensures.page
    ∙ ap (λ (cleaned : Cleaned). cleaned.pieces)
    (read-whole (runs_after clean_step c.args.references.now) c.args.text.now _
    (rw c.new-source.ensures.inner (ap Some c.as_bytes.ensures.value))
    (rw c.in-Ok.is at c.clean_page-cleaner.ensures.finishes))
    in
    ap (list_all (is_clean c.args.policy.now)) kept
    ∙ clean-handed c.args.policy.now (runs_page clean_step c.args.references.now (at_start c.args.policy.now) c.args.text.now) (λ tree. c.soundness.ensures)
