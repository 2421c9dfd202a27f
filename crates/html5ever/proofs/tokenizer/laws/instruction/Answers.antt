use Rattle.std.proofs.Common.{true}
use Rattle.std.specs.Str.{chars}
use Rattle.std.specs.String.{string_bytes}
use Rattle.html5ever_interface.specs.Collected.{Collecting}
use Rattle.html5ever_interface.specs.Options.{options_of}
use Rattle.html5grammar.proofs.Instruction.Collected.{collects-instruction}
use Rattle.html5grammar.specs.Instruction.{IsInstruction, instruction_messages}
use Rattle.html5reading.specs.Start.{start_of}
use Rattle.html5ever.specs.Collecting.{collected_of}
use Rattle.html5ever.specs.Tokenizer.{rules_of}
use Rattle.html5ever.proofs.Wholes.{holds-one}
use Rattle.html5ever.proofs.tokenizer.laws.instruction.Goals as goal

pub returns-clause-instruction : goal.returns-clause-instruction
returns-clause-instruction g c =
    holds-one c.collect.result (λ instruction. IsInstruction (start_of (options_of c.args.opts)) (chars (string_bytes c.args.text)) instruction)
    (λ (sink : Collecting). sink.collected) (collected_of (options_of c.args.opts) c.args.references.now c.args.foreign (chars (string_bytes c.args.text)))
    (λ instruction. record { messages = instruction_messages c.args.opts.exact_errors (start_of (options_of c.args.opts)).input instruction; finished = true; foreign = c.args.foreign })
    c.collect.ensures.reads.holds
    (λ instruction one. collects-instruction (Unit {0}) (rules_of (options_of c.args.opts) c.args.references.now) (start_of (options_of c.args.opts)) c.args.foreign (chars (string_bytes c.args.text)) instruction one)
