use Rattle.std.proofs.Common.{refl}
use Rattle.token_printer.specs.Output.{output_step, added_by}
use Rattle.token_printer.proofs.print_sink.PrintSinkTokenSinkToken.process_text.Goals as goal

pub returns-in-Ok-clause-prints : goal.returns-in-Ok-clause-prints
unfolding output_step added_by
returns-in-Ok-clause-prints g c =
    rw (← c.self.view_is, c.in-Ok.ensures.ok, c.is_open_after_text-self-inside.ensures, c.as_bytes-text.ensures.value) refl
