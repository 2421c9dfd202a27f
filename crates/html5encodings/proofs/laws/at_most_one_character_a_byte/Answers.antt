use Rattle.html5encodings.proofs.Lengths.{decoded-length}
use Rattle.html5encodings.proofs.laws.at_most_one_character_a_byte.Goals as goal

pub returns : goal.returns
returns c = decoded-length
