use Rattle.std.proofs.Common.{sym, ◌∙◌}
use Rattle.utf8_pieces.proofs.Fronts.{IsTextThenCut-whole, IsTextThenCut-valid, IsNeverUtf8-valid}
use Rattle.utf8_pieces.proofs.front.text_len.Goals as goal

pub returns-in-Ok-clause-text : goal.returns-in-Ok-clause-text
returns-in-Ok-clause-text c = rw c.in-Ok.ensures.cases.0 (IsTextThenCut-whole c.args.bytes.now c.in-Ok.ensures.cases.1)

pub returns-in-None-clause-text : goal.returns-in-None-clause-text
returns-in-None-clause-text c =
    rw c.valid_up_to.ensures
    (IsTextThenCut-valid c.args.bytes.now _ c.in-Err.ensures.cases.1 (sym c.in-Err.ensures.fault ∙ sym c.error_len.ensures ∙ c.in-None.is))

pub returns-in-Some-clause-refused : goal.returns-in-Some-clause-refused
returns-in-Some-clause-refused c =
    IsNeverUtf8-valid c.args.bytes.now _ c.in-Some.field-0 c.in-Err.ensures.cases.1
    (sym c.in-Err.ensures.fault ∙ sym c.error_len.ensures ∙ c.in-Some.is)
