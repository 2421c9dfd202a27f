use Rattle.std.proofs.Common.{ap}
use Rattle.html5reading.specs.Start.{Rules, start_of}
use Rattle.html5ever_interface.specs.Options.{options_of}
use Rattle.html5placed.specs.PlacedRecords.{PlacedWriting}
use Rattle.html5placed.proofs.Sessions.{stands-first}
use Rattle.html5placed.proofs.session.PlacedSession.new.Goals as goal

pub returns-clause-stands : goal.returns-clause-stands
returns-clause-stands g c =
    stands-first _ (start_of (options_of c.args.opts)) c.new.result c.detach-reader.ensures (ap (λ (x : Rules). x.references) c.new.ensures.rules) c.new.ensures.stands
    c.new-3.ensures.held c.new-3.ensures.taken (ap (λ (w : PlacedWriting). w.bytes) c.new-2.ensures)
