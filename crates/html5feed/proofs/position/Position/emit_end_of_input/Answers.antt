use Rattle.std.proofs.Common.{◌≡◌, ◌++◌, ◌∙◌, refl, sym, ap, rules}
use Rattle.html5reading.specs.EndOfInput.{late_at_end_of, open_at_end_of, told_at_end_of}
use Rattle.html5reading.specs.Slice.{tokens_of_late}
use Rattle.html5reading.specs.Start.{Start, Rules, is_undecided_open}
use Rattle.html5states.proofs.Tellings.{emits_then, emits_stop}
use Rattle.html5partial.specs.CurrentTag.{opened_of}
use Rattle.html5partial.proofs.Decided.{with_reference-none}
use Rattle.html5feed.proofs.position.Position.emit_end_of_input.Goals as goal

pub returns-in_err-decide_at_end-clause-tells : goal.returns-in_err-decide_at_end-clause-tells
returns-in_err-decide_at_end-clause-tells g c =
    let by : Rules = record { exact = c.rules.inside.exact_errors; references = c.rules.inside.references.now } in
    let told =
    emits_stop c.from_residual.result c.from_residual.ensures.1 c.in_err-decide_at_end.ensures.emits (told_at_end_of by.exact (open_at_end_of by c.args.self.now.opened)) refl in
    let kept = told.kept.sink in
    rw (← c.rules.view_is, ← (c.line-line.ensures.line ∙ ap (λ (P : Start). P.input.line) c.self.view_is)) (search rules)

pub returns-clause-tells : goal.returns-clause-tells
returns-clause-tells g c =
    let now = c.self-2.inside in
    let none = ap (λ (P : Start). is_undecided_open P.opened) c.self-2.view_is ∙ c.in_ok-decide_at_end.ensures.decided in
    let by : Rules = record { exact = c.rules.inside.exact_errors; references = c.rules.inside.references.now } in
    let later : opened_of now.opened ≡ open_at_end_of by c.args.self.now.opened =
    sym (with_reference-none now.in_reference now.held (opened_of now.opened) none (opened_of now.opened)) ∙ ap (λ (P : Start). P.opened) c.self-2.view_is
    ∙ c.in_ok-decide_at_end.ensures.opened in
    let end : told_at_end_of c.decide_at_end.new.teller.exact_errors (opened_of now.opened) ≡ told_at_end_of by.exact (open_at_end_of by c.args.self.now.opened) =
    rw (later, c.in_ok-decide_at_end.ensures.emits.kept.exact_errors) refl in
    let told = emits_then c.in_ok-decide_at_end.ensures.emits c.emit_end_of_input.ensures (ap (λ l. tokens_of_late (late_at_end_of by c.args.self.now.opened) ++ l) (sym end)) in
    let kept = told.kept.sink in
    rw (← c.rules.view_is, ← (c.line-line.ensures.line ∙ ap (λ (P : Start). P.input.line) c.self.view_is)) (search rules)
