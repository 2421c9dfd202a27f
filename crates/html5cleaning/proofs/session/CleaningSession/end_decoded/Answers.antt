-- The rest of the page's text is read, and then its end.
use Rattle.std.proofs.Common.{ap, subst, ◌∙◌}
use Rattle.std.specs.Prelude.{IfErr, OnOk}
use Rattle.std.proofs.lemmas.Result.{on_ok_weaker, IfErr-weaker}
use Rattle.html5session.specs.Intake.{is_decoding}
use Rattle.html5session.specs.Intake.Piece.{TheEnd}
use Rattle.html5session.specs.Session.{is_over}
use Rattle.html5cleaning.specs.Cleaning.{CleaningOf, EndRefused, EndsPage}
use Rattle.html5cleaning.proofs.Calls.{ReadsRest, answer_err, answer_ok, at_once-end, at_once-fed, at_once-refused, decoded_refused, ends_decoded, reads_rest, rest_refused}
use Rattle.html5cleaning.proofs.session.CleaningSession.end_decoded.Goals as goal

pub invariant_of-result-2 : goal.invariant_of-result-2
invariant_of-result-2 g c =
    let going = ap is_over c.self.view_is ∙ c.requires.going_on in
    let s = c.self.inside.session in let mid = c.end_bytes-session.result.0 in
    let rest = answer_ok c.end_bytes-session.result.1 c.done.result _ _ (ReadsRest s mid) c.done.ensures.err c.in_default.is c.end_bytes-session.ensures.feeds (λ answer feeds. reads_rest answer s mid going feeds) in
    at_once-end c.end-session.result.1 _ _ (at_once-fed s mid TheEnd rest) c.end-session.ensures.ends c.end-session.ensures.refused

pub returns-clause-ends : goal.returns-clause-ends
returns-clause-ends g c =
    let going = ap is_over c.self.view_is ∙ c.requires.going_on in
    let decoding = ap (λ (w : CleaningOf). is_decoding w.intake) c.self.view_is ∙ c.requires.decoding in
    let s = c.self.inside.session in let mid = c.end_bytes-session.result.0 in
    let rest = answer_ok c.end_bytes-session.result.1 c.done.result _ _ (ReadsRest s mid) c.done.ensures.err c.in_default.is c.end_bytes-session.ensures.feeds (λ answer feeds. reads_rest answer s mid going feeds) in
    subst (λ (w : CleaningOf). OnOk c.end-session.result.1 (EndsPage w c.end-session.result.0)) c.self.view_is
    (on_ok_weaker c.end-session.result.1 (ends_decoded s mid _ going decoding (c.self.invariant going) rest) c.end-session.ensures.ends)

pub returns-clause-refused : goal.returns-clause-refused
returns-clause-refused g c =
    let going = ap is_over c.self.view_is ∙ c.requires.going_on in
    let decoding = ap (λ (w : CleaningOf). is_decoding w.intake) c.self.view_is ∙ c.requires.decoding in
    let s = c.self.inside.session in let mid = c.end_bytes-session.result.0 in
    let rest = answer_ok c.end_bytes-session.result.1 c.done.result _ _ (ReadsRest s mid) c.done.ensures.err c.in_default.is c.end_bytes-session.ensures.feeds (λ answer feeds. reads_rest answer s mid going feeds) in
    subst (λ (w : CleaningOf). IfErr c.end-session.result.1 (λ error. EndRefused w c.end-session.result.0 error)) c.self.view_is
    (IfErr-weaker c.end-session.result.1 _ _
    (λ error refused. decoded_refused s mid _ error going decoding (c.self.invariant going) rest refused) c.end-session.ensures.refused)

pub invariant_of-result : goal.invariant_of-result
invariant_of-result g c =
    let s = c.self.inside.session in let mid = c.end_bytes-session.result.0 in
    at_once-refused s mid TheEnd c.in-Err.error c.self.invariant
    (answer_err c.end_bytes-session.result.1 c.done.result c.in-Err.error _ c.done.ensures.ok c.done.ensures.err c.in-Err.is c.end_bytes-session.ensures.refused)

pub returns-in-Err-clause-refused : goal.returns-in-Err-clause-refused
returns-in-Err-clause-refused g c =
    let going = ap is_over c.self.view_is ∙ c.requires.going_on in
    let decoding = ap (λ (w : CleaningOf). is_decoding w.intake) c.self.view_is ∙ c.requires.decoding in
    let s = c.self.inside.session in let mid = c.end_bytes-session.result.0 in
    subst (λ (w : CleaningOf). EndRefused w mid c.in-Err.error) c.self.view_is
    (rest_refused s mid c.in-Err.error going decoding (c.self.invariant going)
    (answer_err c.end_bytes-session.result.1 c.done.result c.in-Err.error _ c.done.ensures.ok c.done.ensures.err c.in-Err.is c.end_bytes-session.ensures.refused))
