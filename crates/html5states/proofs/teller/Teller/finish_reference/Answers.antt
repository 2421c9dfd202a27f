use Rattle.std.proofs.Common.{[], length, refl, sym, ap, ◌∙◌}
use Rattle.std.specs.Prelude.{nat_lt}
use Rattle.std.proofs.lemmas.List.{append-nil}
use Rattle.html5partial.specs.CharRef.{stand_of}
use Rattle.html5partial.specs.CurrentTag.{opened_of}
use Rattle.html5states.proofs.Late.{late-decided, told-found, leads-found}
use Rattle.html5states.proofs.Resolving.{emits_ok}
use Rattle.html5states.proofs.Tellings.{emits_then, emits_stop}
use Rattle.html5states.proofs.teller.Teller.finish_reference.Goals as goal

pub returns-in_err-found-clause-emits : goal.returns-in_err-found-clause-emits
returns-in_err-found-clause-emits g c =
    emits_stop _ c.from_residual.ensures.1 c.in_err-found.ensures.emits _
    (late-decided c.args.self.now.exact_errors c.args.references.now c.is_in_value.result (stand_of (opened_of c.args.at.now)) c.args.held.now c.args.next c.is_in_value.ensures)

pub returns-in_err-put_characters-clause-emits : goal.returns-in_err-put_characters-clause-emits
returns-in_err-put_characters-clause-emits g c =
    emits_then c.in_ok-found.ensures.emits (emits_stop _ c.from_residual-in_err-put_characters.ensures.1 c.in_err-put_characters.ensures.emits [] (sym (append-nil _)))
    (told-found c.args.self.now.exact_errors c.args.references.now c.is_in_value.result (stand_of (opened_of c.args.at.now)) c.args.held.now c.text-text.result.now c.afterwards.result.now c.args.next c.in_ok-found.found c.is_in_value.ensures
    c.in_ok-found.ensures.found c.text-text.ensures.text c.afterwards.ensures)

pub returns-clause-emits : goal.returns-clause-emits
returns-clause-emits g c =
    emits_then c.in_ok-found.ensures.emits (emits_ok c.in_ok-put_characters.ensures.emits refl)
    (told-found c.args.self.now.exact_errors c.args.references.now c.is_in_value.result (stand_of (opened_of c.args.at.now)) c.args.held.now c.text-text.result.now c.afterwards.result.now c.args.next c.in_ok-found.found c.is_in_value.ensures
    c.in_ok-found.ensures.found c.text-text.ensures.text c.afterwards.ensures)

pub returns-clause-leads : goal.returns-clause-leads
returns-clause-leads g c =
    c.in_ok-put_characters.ensures.leads
    ∙ leads-found c.args.self.now.exact_errors c.args.references.now c.is_in_value.result (stand_of (opened_of c.args.at.now)) c.args.held.now c.text-text.result.now c.afterwards.result.now c.args.next c.in_ok-found.found c.is_in_value.ensures
    c.in_ok-found.ensures.found c.text-text.ensures.text c.afterwards.ensures

pub returns-clause-ends : goal.returns-clause-ends
returns-clause-ends g c = λ d e. ap (λ text. nat_lt (length text) c.in_ok-found.found.taken) c.text-text.ensures.text ∙ c.in_ok-found.ensures.ends d e
