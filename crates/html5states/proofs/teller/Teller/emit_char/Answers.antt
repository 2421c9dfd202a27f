use Rattle.html5states.proofs.teller.Teller.emit_char.Goals as goal

pub returns : goal.returns
returns g c = rw c.encode_utf8.ensures.value at c.hand_on_text.ensures.whole
