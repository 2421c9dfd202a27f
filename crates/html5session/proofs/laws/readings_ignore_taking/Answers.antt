use Rattle.html5session.proofs.SameReadings.{taking-told, taking-whole, taking-state, taking-start, taking-fed}
use Rattle.html5session.proofs.laws.readings_ignore_taking.Goals as goal

pub returns : goal.returns
returns c = record { told = taking-told; whole = taking-whole; state = taking-state; start = taking-start; fed = taking-fed }
