use Rattle.std.proofs.Common.{refl}
use Rattle.token_printer.specs.Output.{output_step}
use Rattle.token_printer.proofs.print_sink.PrintSinkTokenSinkToken.process_lent.Goals as goal

pub returns-in-Ok-clause-steps : goal.returns-in-Ok-clause-steps
unfolding output_step
returns-in-Ok-clause-steps g c =
    rw (← c.self.view_is, c.in-Ok.ensures.ok, c.is_open_after-self-inside.ensures) refl
