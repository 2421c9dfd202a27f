use Rattle.markup5ever.proofs.LaneLemmas.{bit_places_fit, HasLanes-bits}
use Rattle.markup5ever.proofs.small_char_set.bit_of_each.Goals as goal

pub swizzle : goal.swizzle
swizzle c = bit_places_fit c.args.block c.fits-block

pub returns : goal.returns
returns c = HasLanes-bits c.args.block c.fits-block
