use Rattle.html5places.proofs.Pieces.{placed_by-append, tokens-of_pieces}
use Rattle.html5places.proofs.laws.pieces_tell_the_text.Goals as goal

pub returns-clause-pieces : goal.returns-clause-pieces
returns-clause-pieces c = placed_by-append

pub returns-clause-whole : goal.returns-clause-whole
returns-clause-whole c = tokens-of_pieces
