-- Each answer composes what several calls sent, in their order, by lemmas over whole records. The tactic closes single calls only.
use Rattle.std.proofs.Common.{◌∙◌, ap, subst, arith, rules}
use Rattle.std.proofs.lemmas.Result.{IfOk-weaker, on_ok_weaker}
use Rattle.html5partial.specs.CharRef.{begun_reference}
use Rattle.html5partial.specs.Steps.{Leads}
use Rattle.html5feed.proofs.CharacterReading.{held_len-after, closes-open, data-state, tells-ended, opened-ended, pause-ended, tells-going, opened-going, pause-going, tells-refused, leads-refused, tells-bad, last-ended, last-going}
use Rattle.html5reading.proofs.Holding.{holds_at_most_one}
use Rattle.html5partial.specs.CurrentTag.{opened_of}
use Rattle.html5partial.proofs.Decided.{begun-decided, beside-decided, with_reference-none}
use Rattle.html5feed.proofs.character.read_opened.Goals as goal

pub returns-in_err-emit_bad_character-clause-tells : goal.returns-in_err-emit_bad_character-clause-tells
returns-in_err-emit_bad_character-clause-tells g c =
    rw (← c.rules.view_is, ← c.position.view_is, with_reference-none _ _ _ (rw (← c.position.view_is) at c.requires) _, ← c.line-line.ensures.line)
    (let told = tells-bad g.S.TokenSink.means (record { exact = c.rules.inside.exact_errors; references = c.rules.inside.references.now }) c.position.inside.opened.state c.position.inside.opened (g.S.TokenSink.means.state c.args.sink.now) c.line-line.result c.args.c c.from_residual.result _ _
    c.from_residual.ensures.1 c.in_err-emit_bad_character.ensures.refusal c.in_err-emit_bad_character.ensures.tells in
    let kept = c.in_err-emit_bad_character.ensures.kept.sink in
    search rules)

pub returns-in_err-step-clause-tells : goal.returns-in_err-step-clause-tells
returns-in_err-step-clause-tells g c =
    let here = rw c.in_ok-emit_bad_character.ensures.kept.exact_errors at c.in_err-step.ensures.reads in
    rw (← c.rules.view_is, ← c.position.view_is, with_reference-none _ _ _ (rw (← c.position.view_is) at c.requires) _, ← c.line-line.ensures.line)
    (let told = tells-refused g.S.TokenSink.means (record { exact = c.rules.inside.exact_errors; references = c.rules.inside.references.now }) c.position.inside.opened.state c.position.inside.opened (g.S.TokenSink.means.state c.args.sink.now) c.line-line.result c.args.c _ _ c.in_ok-emit_bad_character.ensures.tells g.row.A.Denot c.from_residual-in_err-step.result _ _
    c.from_residual-in_err-step.ensures.1 here.leads (rw c.in_ok-emit_bad_character.ensures.kept.line at here.tells) in
    let kept = here.kept.sink ∙ c.in_ok-emit_bad_character.ensures.kept.sink in
    search rules)

pub returns-in_err-step-clause-leads : goal.returns-in_err-step-clause-leads
returns-in_err-step-clause-leads g c =
    let here = rw c.in_ok-emit_bad_character.ensures.kept.exact_errors at c.in_err-step.ensures.reads in
    rw (← c.rules.view_is, ← c.position.view_is, with_reference-none c.position.inside.in_reference c.position.inside.held (opened_of c.position.inside.opened) (rw (← c.position.view_is) at c.requires) (opened_of c.position.inside.opened), ← c.line-line.ensures.line)
    (leads-refused g.S.TokenSink.means (record { exact = c.rules.inside.exact_errors; references = c.rules.inside.references.now }) c.position.inside.opened.state c.position.inside.opened (g.S.TokenSink.means.state c.args.sink.now) c.line-line.result c.args.c g.row.A.Denot c.from_residual-in_err-step.result _ _ _
    c.from_residual-in_err-step.ensures.1 here.leads)

pub emit_tag-requires : goal.emit_tag-requires
emit_tag-requires g c =
    let here = rw c.in_ok-emit_bad_character.ensures.kept.exact_errors at c.in_ok-step.ensures.reads in
    data-state c.step.new.opened.state c.step.new.opened (closes-open _ _ _ (rw c.in-EndsTag.is at here.leads.0))

pub returns-clause-tells : goal.returns-clause-tells
returns-clause-tells g c =
    let here = rw c.in_ok-emit_bad_character.ensures.kept.exact_errors at c.in_ok-step.ensures.reads in
    let line = here.kept.line ∙ c.in_ok-emit_bad_character.ensures.kept.line in
    rw (← c.rules.view_is, ← c.position.view_is, with_reference-none _ _ _ (rw (← c.position.view_is) at c.requires) _, ← c.line-line.ensures.line)
    (let told = tells-ended g.S.TokenSink.means (record { exact = c.rules.inside.exact_errors; references = c.rules.inside.references.now }) c.position.inside.opened.state c.position.inside.opened (g.S.TokenSink.means.state c.args.sink.now) c.line-line.result c.args.c _ _ c.in_ok-emit_bad_character.ensures.tells c.emit_tag.result _ _ _ (rw c.in_ok-emit_bad_character.ensures.kept.line at here.tells) (rw c.in-EndsTag.is at here.leads.0) (rw line at c.emit_tag.ensures.emits.tells) in
    let kept = c.emit_tag.ensures.emits.kept.sink ∙ here.kept.sink ∙ c.in_ok-emit_bad_character.ensures.kept.sink in
    search rules)

pub returns-clause-leads : goal.returns-clause-leads
returns-clause-leads g c =
    let here = rw c.in_ok-emit_bad_character.ensures.kept.exact_errors at c.in_ok-step.ensures.reads in
    let line = here.kept.line ∙ c.in_ok-emit_bad_character.ensures.kept.line in
    rw (← c.rules.view_is, ← c.position.view_is, with_reference-none c.position.inside.in_reference c.position.inside.held (opened_of c.position.inside.opened) (rw (← c.position.view_is) at c.requires) (opened_of c.position.inside.opened), ← c.line-line.ensures.line)
    (rw (with_reference-none c.position.inside.in_reference c.position.inside.held (opened_of c.position.inside.opened) (rw (← c.position.view_is) at c.requires) (opened_of c.emit_tag.new.opened))
    (subst (λ o. Leads c.emit_tag.result (opened_of c.emit_tag.new.opened) o)
    (opened-ended g.S.TokenSink.means (record { exact = c.rules.inside.exact_errors; references = c.rules.inside.references.now }) c.position.inside.opened.state c.position.inside.opened (g.S.TokenSink.means.state c.args.sink.now) c.line-line.result c.args.c _ _ c.in_ok-emit_bad_character.ensures.tells _ _ (rw c.in_ok-emit_bad_character.ensures.kept.line at here.tells) (rw c.in-EndsTag.is at here.leads.0))
    (rw (here.last, line) at c.emit_tag.ensures.leads)))

pub returns-clause-answer : goal.returns-clause-answer
returns-clause-answer g c =
    let here = rw c.in_ok-emit_bad_character.ensures.kept.exact_errors at c.in_ok-step.ensures.reads in
    let line = here.kept.line ∙ c.in_ok-emit_bad_character.ensures.kept.line in
    rw (← c.rules.view_is, ← c.position.view_is, with_reference-none _ _ _ (rw (← c.position.view_is) at c.requires) _, ← c.line-line.ensures.line)
    (IfOk-weaker c.emit_tag.result _ _
    (λ answer is. is ∙ pause-ended g.S.TokenSink.means (record { exact = c.rules.inside.exact_errors; references = c.rules.inside.references.now }) c.position.inside.opened.state c.position.inside.opened (g.S.TokenSink.means.state c.args.sink.now) c.line-line.result c.args.c _ _ c.in_ok-emit_bad_character.ensures.tells g.met.S.TokenSink.keeps_on _ _ (rw c.in_ok-emit_bad_character.ensures.kept.line at here.tells) (rw c.in-EndsTag.is at here.leads.0))
    (rw line at c.emit_tag.ensures.answer))

pub returns-in-Continues-clause-tells : goal.returns-in-Continues-clause-tells
returns-in-Continues-clause-tells g c =
    let here = rw c.in_ok-emit_bad_character.ensures.kept.exact_errors at c.in_ok-step.ensures.reads in
    rw (← c.rules.view_is, ← c.position.view_is, with_reference-none _ _ _ (rw (← c.position.view_is) at c.requires) _, ← c.line-line.ensures.line)
    (let told = tells-going g.S.TokenSink.means (record { exact = c.rules.inside.exact_errors; references = c.rules.inside.references.now }) c.position.inside.opened.state c.position.inside.opened (g.S.TokenSink.means.state c.args.sink.now) c.line-line.result c.args.c _ _ c.in_ok-emit_bad_character.ensures.tells _ (rw c.in_ok-emit_bad_character.ensures.kept.line at here.tells) (rw c.in-Continues.is at here.leads.0) in
    let kept = here.kept.sink ∙ c.in_ok-emit_bad_character.ensures.kept.sink in
    search rules)

pub returns-in-Continues-clause-leads : goal.returns-in-Continues-clause-leads
returns-in-Continues-clause-leads g c =
    let here = rw c.in_ok-emit_bad_character.ensures.kept.exact_errors at c.in_ok-step.ensures.reads in
    rw (← c.rules.view_is, ← c.position.view_is, with_reference-none c.position.inside.in_reference c.position.inside.held (opened_of c.position.inside.opened) (rw (← c.position.view_is) at c.requires) (opened_of c.position.inside.opened), ← c.line-line.ensures.line)
    (let leads = rw c.in-Continues.is at here.leads in
    let opened = opened-going g.S.TokenSink.means (record { exact = c.rules.inside.exact_errors; references = c.rules.inside.references.now }) c.position.inside.opened.state c.position.inside.opened (g.S.TokenSink.means.state c.args.sink.now) c.line-line.result c.args.c _ _ c.in_ok-emit_bad_character.ensures.tells _ (rw c.in_ok-emit_bad_character.ensures.kept.line at here.tells) leads.0 in
    with_reference-none _ _ _ (rw (← c.position.view_is) at c.requires) _ ∙ opened)

pub returns-in-Continues-clause-answer : goal.returns-in-Continues-clause-answer
returns-in-Continues-clause-answer g c =
    let here = rw c.in_ok-emit_bad_character.ensures.kept.exact_errors at c.in_ok-step.ensures.reads in
    rw (← c.rules.view_is, ← c.position.view_is, with_reference-none _ _ _ (rw (← c.position.view_is) at c.requires) _, ← c.line-line.ensures.line)
    (pause-going g.S.TokenSink.means (record { exact = c.rules.inside.exact_errors; references = c.rules.inside.references.now }) c.position.inside.opened.state c.position.inside.opened (g.S.TokenSink.means.state c.args.sink.now) c.line-line.result c.args.c _ (g.S.TokenSink.means.state c.step.new.teller.sink.now) c.in_ok-emit_bad_character.ensures.tells g.met.S.TokenSink.keeps_on _ (rw c.in-Continues.is at here.leads.0))

pub returns-in-BeginsReference-clause-tells : goal.returns-in-BeginsReference-clause-tells
returns-in-BeginsReference-clause-tells g c =
    let here = rw c.in_ok-emit_bad_character.ensures.kept.exact_errors at c.in_ok-step.ensures.reads in
    rw (← c.rules.view_is, ← c.position.view_is, with_reference-none _ _ _ (rw (← c.position.view_is) at c.requires) _, ← c.line-line.ensures.line)
    (let told = tells-going g.S.TokenSink.means (record { exact = c.rules.inside.exact_errors; references = c.rules.inside.references.now }) c.position.inside.opened.state c.position.inside.opened (g.S.TokenSink.means.state c.args.sink.now) c.line-line.result c.args.c _ _ c.in_ok-emit_bad_character.ensures.tells _ (rw c.in_ok-emit_bad_character.ensures.kept.line at here.tells) (rw c.in-BeginsReference.is at here.leads.0) in
    let kept = here.kept.sink ∙ c.in_ok-emit_bad_character.ensures.kept.sink in
    search rules)

pub returns-in-BeginsReference-clause-leads : goal.returns-in-BeginsReference-clause-leads
returns-in-BeginsReference-clause-leads g c =
    let here = rw c.in_ok-emit_bad_character.ensures.kept.exact_errors at c.in_ok-step.ensures.reads in
    rw (← c.rules.view_is, ← c.position.view_is, with_reference-none c.position.inside.in_reference c.position.inside.held (opened_of c.position.inside.opened) (rw (← c.position.view_is) at c.requires) (opened_of c.position.inside.opened), ← c.line-line.ensures.line)
    (let leads = rw c.in-BeginsReference.is at here.leads in
    let opened = opened-going g.S.TokenSink.means (record { exact = c.rules.inside.exact_errors; references = c.rules.inside.references.now }) c.position.inside.opened.state c.position.inside.opened (g.S.TokenSink.means.state c.args.sink.now) c.line-line.result c.args.c _ _ c.in_ok-emit_bad_character.ensures.tells _ (rw c.in_ok-emit_bad_character.ensures.kept.line at here.tells) leads.0 in
    c.begin_reference.ensures.opened ∙ ap begun_reference (with_reference-none _ _ _ (rw (← c.position.view_is) at c.requires) _) ∙ opened)

pub returns-in-BeginsReference-clause-answer : goal.returns-in-BeginsReference-clause-answer
returns-in-BeginsReference-clause-answer g c =
    let here = rw c.in_ok-emit_bad_character.ensures.kept.exact_errors at c.in_ok-step.ensures.reads in
    rw (← c.rules.view_is, ← c.position.view_is, with_reference-none _ _ _ (rw (← c.position.view_is) at c.requires) _, ← c.line-line.ensures.line)
    (pause-going g.S.TokenSink.means (record { exact = c.rules.inside.exact_errors; references = c.rules.inside.references.now }) c.position.inside.opened.state c.position.inside.opened (g.S.TokenSink.means.state c.args.sink.now) c.line-line.result c.args.c _ (g.S.TokenSink.means.state c.step.new.teller.sink.now) c.in_ok-emit_bad_character.ensures.tells g.met.S.TokenSink.keeps_on _ (rw c.in-BeginsReference.is at here.leads.0))

pub returns-in_err-step-clause-held : goal.returns-in_err-step-clause-held
returns-in_err-step-clause-held g c =
    rw (with_reference-none _ _ _ (rw (← c.position.view_is) at c.requires) _, c.in_err-step.ensures.held) (omega arith)

pub returns-in-Continues-clause-held : goal.returns-in-Continues-clause-held
returns-in-Continues-clause-held g c =
    let here = rw c.in_ok-emit_bad_character.ensures.kept.exact_errors at c.in_ok-step.ensures.reads in
    rw (with_reference-none _ _ _ (rw (← c.position.view_is) at c.requires) _)
    (held_len-after _ _ (holds_at_most_one c.rules.inside.exact_errors c.args.c (opened_of c.position.inside.opened) (beside-decided _ _ _ (rw (← c.position.view_is) at c.requires))) (rw c.in-Continues.is at here.leads.0))

pub begin_reference-requires-clause-decided : goal.begin_reference-requires-clause-decided
begin_reference-requires-clause-decided g c =
    let here = rw c.in_ok-emit_bad_character.ensures.kept.exact_errors at c.in_ok-step.ensures.reads in
    let leads = rw c.in-BeginsReference.is at here.leads in
    rw (with_reference-none _ _ _ (rw (← c.position.view_is) at c.requires) _) (begun-decided _ leads.1)

pub begin_reference-requires-clause-can_stand : goal.begin_reference-requires-clause-can_stand
begin_reference-requires-clause-can_stand g c =
    let here = rw c.in_ok-emit_bad_character.ensures.kept.exact_errors at c.in_ok-step.ensures.reads in
    let leads = rw c.in-BeginsReference.is at here.leads in
    rw (with_reference-none _ _ _ (rw (← c.position.view_is) at c.requires) _) leads.1

pub returns-clause-last : goal.returns-clause-last
returns-clause-last g c =
    let here = rw c.in_ok-emit_bad_character.ensures.kept.exact_errors at c.in_ok-step.ensures.reads in
    rw (← c.rules.view_is, ← c.position.view_is, with_reference-none _ _ _ (rw (← c.position.view_is) at c.requires) _)
    (on_ok_weaker c.emit_tag.result
    (λ is. is ∙ last-ended g.S.TokenSink.means (record { exact = c.rules.inside.exact_errors; references = c.rules.inside.references.now }) c.position.inside.opened.state c.position.inside.opened (g.S.TokenSink.means.state c.args.sink.now) c.line-line.result c.args.c _ (g.S.TokenSink.means.state c.step.new.teller.sink.now) c.in_ok-emit_bad_character.ensures.tells _ _ (rw c.in-EndsTag.is at here.leads.0))
    (rw here.last at c.emit_tag.ensures.last))

pub returns-in-Continues-clause-last : goal.returns-in-Continues-clause-last
returns-in-Continues-clause-last g c =
    let here = rw c.in_ok-emit_bad_character.ensures.kept.exact_errors at c.in_ok-step.ensures.reads in
    rw (← c.rules.view_is, ← c.position.view_is, with_reference-none _ _ _ (rw (← c.position.view_is) at c.requires) _)
    (here.last ∙ last-going g.S.TokenSink.means (record { exact = c.rules.inside.exact_errors; references = c.rules.inside.references.now }) c.position.inside.opened.state c.position.inside.opened (g.S.TokenSink.means.state c.args.sink.now) c.line-line.result c.args.c _ (g.S.TokenSink.means.state c.step.new.teller.sink.now) c.in_ok-emit_bad_character.ensures.tells _ (rw c.in-Continues.is at here.leads.0))

pub returns-in-BeginsReference-clause-last : goal.returns-in-BeginsReference-clause-last
returns-in-BeginsReference-clause-last g c =
    let here = rw c.in_ok-emit_bad_character.ensures.kept.exact_errors at c.in_ok-step.ensures.reads in
    rw (← c.rules.view_is, ← c.position.view_is, with_reference-none _ _ _ (rw (← c.position.view_is) at c.requires) _)
    (c.begin_reference.ensures.last ∙ here.last ∙ last-going g.S.TokenSink.means (record { exact = c.rules.inside.exact_errors; references = c.rules.inside.references.now }) c.position.inside.opened.state c.position.inside.opened (g.S.TokenSink.means.state c.args.sink.now) c.line-line.result c.args.c _ (g.S.TokenSink.means.state c.step.new.teller.sink.now) c.in_ok-emit_bad_character.ensures.tells _ (rw c.in-BeginsReference.is at here.leads.0))

pub step-requires : goal.step-requires
step-requires g c = beside-decided _ _ _ (rw (← c.position.view_is) at c.requires)
