use Rattle.std.proofs.Common.{refl}
use Rattle.html5ever_interface.specs.Token.Told.{Tag}
use Rattle.html5states.proofs.Tellings.{emits_fault-one}
use Rattle.html5states.proofs.teller.Teller.emit_open_tag.Goals as goal

pub returns-in-Err-clause-emits : goal.returns-in-Err-clause-emits
returns-in-Err-clause-emits g c =
    emits_fault-one (Tag c.args.tag.now) c.in-Err.ensures.fault c.in-Err.ensures.one_fault (record { sink = refl; line = refl; exact_errors = refl })
