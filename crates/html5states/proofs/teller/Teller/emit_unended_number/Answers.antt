use Rattle.html5states.proofs.teller.Teller.emit_unended_number.Goals as goal

pub returns-in-None : goal.returns-in-None
unfolding Rattle.html5reading.specs.Reference.unended_number
returns-in-None g c = rw c.in-None.is c.emit_message.ensures

pub returns-in-Some : goal.returns-in-Some
unfolding Rattle.html5reading.specs.Reference.unended_number
returns-in-Some g c = rw c.in-Some.is c.emit_message_where.ensures
