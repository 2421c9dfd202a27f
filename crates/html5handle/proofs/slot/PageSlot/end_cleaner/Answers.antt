use Rattle.std.proofs.Common.{ℕ, Option, Some, Result, sym, ◌∙◌, subst}
use Rattle.std.specs.Prelude.{IfErr, OnOk}
use Rattle.html5handle.specs.CleanerCalls.{CleanerEnds, CleanerEndSays}
use Rattle.html5handle.proofs.CleanerStatuses.{end_says-done, end_says-error}
use Rattle.html5handle.proofs.Going.{answered_going, refused_over}
use Rattle.html5cleaning.specs.Cleaning.{CleaningOf, EndRefused, EndsPage}
use Rattle.html5session.specs.Session.{is_over}
use Rattle.html5session.specs.declared.error.SessionError.{SessionError}
use Rattle.html5session.specs.declared.error.SessionError.TheVariants.{Over}
use Rattle.html5handle.proofs.slot.PageSlot.end_cleaner.Goals as goal

pub returns-in-Ok-clause-ends : goal.returns-in-Ok-clause-ends
returns-in-Ok-clause-ends c =
    let s = c.in-Some.session in let t = c.end-session.result.0 in
    let ends = subst (λ (r : Result (Unit {0}) SessionError). OnOk r (EndsPage s t)) c.in-Ok.is c.end-session.ensures.ends in
    subst (λ (o : Option CleaningOf). CleanerEnds o (Some t) 0) (sym (sym c.take_cleaner.ensures.session ∙ c.in-Some.is))
    (end_says-done s t ends (answered_going c.end-session.result.1 _ Over (is_over s) c.in-Ok.is c.end-session.ensures.over))

pub returns-in-Err-clause-ends : goal.returns-in-Err-clause-ends
returns-in-Err-clause-ends c =
    let s = c.in-Some.session in let t = c.end-session.result.0 in
    let refused = subst (λ (r : Result (Unit {0}) SessionError). IfErr r (λ error. EndRefused s t error)) c.in-Err.is c.end-session.ensures.refused in
    subst (λ (o : Option CleaningOf). CleanerEnds o (Some t) c.status_of_error.result) (sym (sym c.take_cleaner.ensures.session ∙ c.in-Some.is))
    (subst (λ (n : ℕ). CleanerEndSays s t n) (sym c.status_of_error.ensures) (end_says-error s t c.in-Err.error refused
    (refused_over c.end-session.result.1 c.in-Err.error Over (is_over s) c.in-Err.is c.end-session.ensures.over)))
