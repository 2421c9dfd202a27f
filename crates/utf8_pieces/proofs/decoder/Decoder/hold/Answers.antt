use Rattle.utf8_pieces.proofs.Cuts.{length-IsCutCharacter}
use Rattle.utf8_pieces.proofs.decoder.Decoder.hold.Goals as goal

pub padded-self-inside-requires : goal.padded-self-inside-requires
padded-self-inside-requires c = length-IsCutCharacter c.args.bytes.now c.requires
