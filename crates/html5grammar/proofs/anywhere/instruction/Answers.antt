use Rattle.html5grammar.specs.Instruction as one_instruction
use Rattle.html5grammar.specs.Instruction.{open_after_instruction}
use Rattle.html5grammar.proofs.ByItself.{trace-by_itself}
use Rattle.html5grammar.proofs.Instruction.Reading.{reads}
use Rattle.html5grammar.proofs.anywhere.instruction.Goals as goal

pub returns : goal.returns
returns g c = λ rules K s Y instruction one.
    trace-by_itself g.S.TokenSink.means rules K s Y (one_instruction.messages_of rules.exact K.input instruction) (open_after_instruction instruction) K.last_start_tag
    (reads g.S.TokenSink.means.step g.S.TokenSink.means.reply g.S.TokenSink.means.foreign rules K s Y instruction one)
