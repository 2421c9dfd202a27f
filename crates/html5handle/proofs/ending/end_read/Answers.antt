-- The status is split from what the session's call says.
use Rattle.std.proofs.Common.{ℕ, Result, sym, subst}
use Rattle.std.specs.Prelude.{IfErr, OnOk}
use Rattle.html5handle.specs.Calls.{EndSays}
use Rattle.html5handle.proofs.Going.{answered_going, refused_over}
use Rattle.html5handle.proofs.Statuses.{end_says-done, end_says-error}
use Rattle.html5records.specs.Recording.{recorded_means}
use Rattle.html5session.specs.Session.{is_over, EndsSession, EndRefused}
use Rattle.html5session.specs.declared.error.SessionError.{SessionError}
use Rattle.html5session.specs.declared.error.SessionError.TheVariants.{Over}
use Rattle.html5handle.proofs.ending.end_read.Goals as goal

pub returns-in-Ok : goal.returns-in-Ok
returns-in-Ok c =
    let s = c.args.session in let t = c.end-session.result.0 in
    let ends = subst (λ (r : Result (Unit {0}) SessionError). OnOk r (EndsSession recorded_means s t)) c.in-Ok.is c.end-session.ensures.ends in
    end_says-done s t (answered_going c.end-session.result.1 _ Over (is_over s) c.in-Ok.is c.end-session.ensures.over) ends

pub returns-in-Err : goal.returns-in-Err
returns-in-Err c =
    let s = c.args.session in let t = c.end-session.result.0 in
    let refused = subst (λ (r : Result (Unit {0}) SessionError). IfErr r (λ error. EndRefused recorded_means s t error)) c.in-Err.is c.end-session.ensures.refused in
    subst (λ (n : ℕ). EndSays s t n) (sym c.status_of_error.ensures) (end_says-error s t c.in-Err.error refused
    (refused_over c.end-session.result.1 c.in-Err.error Over (is_over s) c.in-Err.is c.end-session.ensures.over))
