use Rattle.utf8_pieces.proofs.Fronts.{joined_is}
use Rattle.utf8_pieces.proofs.front.joined.Goals as goal

pub returns : goal.returns
returns c =
    joined_is c.args.held.now c.args.bytes.now c.copy_from_slice.new.self c.copy_from_slice-2.new.self _ c.args.len _
    c.copy_from_slice.ensures.after c.copy_from_slice-2.ensures.after c.requires.short c.requires.known
