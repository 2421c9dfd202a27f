use Rattle.html5states.proofs.Resolving.{inexact_number}
use Rattle.html5states.proofs.teller.Teller.emit_invalid_number.Goals as goal

pub returns-then-not-self : goal.returns-then-not-self
returns-then-not-self g c =
    rw (inexact_number c.args.is_invalid c.args.self.now.exact_errors c.args.low_bits c.if-not-is_invalid.false c.if-not-self.true) c.emit_message.ensures
