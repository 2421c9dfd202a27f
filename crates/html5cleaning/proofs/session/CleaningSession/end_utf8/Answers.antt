use Rattle.std.proofs.Common.{ap, subst, ◌∙◌}
use Rattle.std.specs.Prelude.{IfErr, OnOk}
use Rattle.std.proofs.lemmas.Result.{on_ok_weaker, IfErr-weaker}
use Rattle.html5session.specs.Intake.{is_decoding}
use Rattle.html5session.specs.Session.{is_over}
use Rattle.html5cleaning.specs.Cleaning.{CleaningOf, EndRefused, EndsPage}
use Rattle.html5cleaning.proofs.Calls.{at_once-end, end_refused, ends_page}
use Rattle.html5cleaning.proofs.session.CleaningSession.end_utf8.Goals as goal

pub invariant_of-result : goal.invariant_of-result
invariant_of-result g c =
    let going = ap is_over c.self.view_is ∙ c.requires.going_on in
    at_once-end c.end-session.result.1 _ _ (c.self.invariant going) c.end-session.ensures.ends c.end-session.ensures.refused

pub returns-clause-ends : goal.returns-clause-ends
returns-clause-ends g c =
    let going = ap is_over c.self.view_is ∙ c.requires.going_on in
    let strict = ap (λ (w : CleaningOf). is_decoding w.intake) c.self.view_is ∙ c.requires.utf8 in
    subst (λ (w : CleaningOf). OnOk c.end-session.result.1 (EndsPage w c.end-session.result.0)) c.self.view_is
    (on_ok_weaker c.end-session.result.1 (ends_page _ _ going strict) c.end-session.ensures.ends)

pub returns-clause-refused : goal.returns-clause-refused
returns-clause-refused g c =
    let going = ap is_over c.self.view_is ∙ c.requires.going_on in
    let strict = ap (λ (w : CleaningOf). is_decoding w.intake) c.self.view_is ∙ c.requires.utf8 in
    subst (λ (w : CleaningOf). IfErr c.end-session.result.1 (λ error. EndRefused w c.end-session.result.0 error)) c.self.view_is
    (IfErr-weaker c.end-session.result.1 _ _ (λ error refused. end_refused _ _ error going strict (c.self.invariant going) refused) c.end-session.ensures.refused)
