use Rattle.std.proofs.Common.{[], ◌++◌, refl, sym, ap, ◌∙◌, arith}
use Rattle.std.proofs.lemmas.List.{append-nil}
use Rattle.html5ever_interface.specs.Token.Told.{Error}
use Rattle.html5reading.specs.ErrorText.{where_true}
use Rattle.html5reading.specs.Reference.{unended_number, invalid_number}
use Rattle.html5states.proofs.Tellings.{emits_then, emits_stop}
use Rattle.html5states.proofs.Resolving.{number-errors, number-found, emits_ok}
use Rattle.html5states.proofs.teller.Teller.resolve_number.Goals as goal

pub returns-in_err-emit_invalid_number-clause-emits : goal.returns-in_err-emit_invalid_number-clause-emits
returns-in_err-emit_invalid_number-clause-emits g c =
    emits_then c.in_ok-emit_unended_number.ensures (emits_stop _ c.from_residual-in_err-emit_invalid_number.ensures.1 c.in_err-emit_invalid_number.ensures [] (sym (append-nil _)))
    (number-errors c.args.self.now.exact_errors c.args.number.now c.args.next c.number_value-value.result.value c.number_value-value.result.low_bits c.is_invalid.result (sym c.has_digits.ensures ∙ c.if-not-has_digits.false)
    c.number_value-value.ensures.value c.number_value-value.ensures.low_bits c.is_invalid.ensures
    ∙ ap (λ exact. unended_number c.args.next ++ where_true c.is_invalid.result (Error (invalid_number exact c.number_value-value.result.low_bits))) (sym c.in_ok-emit_unended_number.ensures.kept.exact_errors))

pub returns-clause-emits : goal.returns-clause-emits
returns-clause-emits g c =
    emits_then c.in_ok-emit_unended_number.ensures (emits_ok c.in_ok-emit_invalid_number.ensures refl)
    (number-errors c.args.self.now.exact_errors c.args.number.now c.args.next c.number_value-value.result.value c.number_value-value.result.low_bits c.is_invalid.result (sym c.has_digits.ensures ∙ c.if-not-has_digits.false)
    c.number_value-value.ensures.value c.number_value-value.ensures.low_bits c.is_invalid.ensures
    ∙ ap (λ exact. unended_number c.args.next ++ where_true c.is_invalid.result (Error (invalid_number exact c.number_value-value.result.low_bits))) (sym c.in_ok-emit_unended_number.ensures.kept.exact_errors))

pub returns-clause-found : goal.returns-clause-found
returns-clause-found g c =
    number-found c.args.self.now.exact_errors c.args.number.now c.args.next _ c.number_value-value.result.value (sym c.has_digits.ensures ∙ c.if-not-has_digits.false)
    c.number_value-value.ensures.value (omega (arith, c.semicolon_len.ensures)) c.character.ensures refl
