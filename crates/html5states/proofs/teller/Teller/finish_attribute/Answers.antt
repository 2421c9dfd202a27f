use Rattle.html5states.proofs.teller.Teller.finish_attribute.Goals as goal

pub returns-clause-emits : goal.returns-clause-emits
unfolding Rattle.html5reading.specs.Tag.duplicate_error
returns-clause-emits g c = rw c.in_ok-repeated.ensures.repeated at c.emit_message_where.ensures
