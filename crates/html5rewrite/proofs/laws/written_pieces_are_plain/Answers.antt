use Rattle.html5rewrite.proofs.PlainPieces.{plain-pieces}
use Rattle.html5rewrite.proofs.laws.written_pieces_are_plain.Goals as goal

pub returns : goal.returns
returns c = plain-pieces
