use Rattle.std.proofs.Common.{take}
use Rattle.utf8_pieces.specs.Pieces.{bytes_of}
use Rattle.utf8_pieces.proofs.All.{HasDecoded}
use Rattle.utf8_pieces.proofs.decoder.decode_all.Given as goal

abbrev pub invariant-loop-piece : goal.invariant-loop-piece
invariant-loop-piece g l = HasDecoded l.text l.decoder (bytes_of (take l.piece-index l.pieces))
