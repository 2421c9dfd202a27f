use Rattle.std.proofs.Common.{refl}
use Rattle.html5states.proofs.Tellings.{emits_then, emits_stop}
use Rattle.html5states.proofs.teller.Teller.end_after_instruction.Goals as goal

pub returns-in_err-emit_instruction_text : goal.returns-in_err-emit_instruction_text
returns-in_err-emit_instruction_text g c = emits_stop _ c.from_residual.ensures.1 c.in_err-emit_instruction_text.ensures _ refl

pub returns : goal.returns
returns g c = emits_then c.in_ok-emit_instruction_text.ensures c.emit.ensures refl
