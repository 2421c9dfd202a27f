use Rattle.markup5ever.proofs.LaneLemmas.{eighth_places_fit, HasLanes-eighths}
use Rattle.markup5ever.proofs.small_char_set.eighth_of_each.Goals as goal

pub swizzle : goal.swizzle
swizzle c = eighth_places_fit c.args.block c.fits-block

pub returns : goal.returns
returns c = HasLanes-eighths c.args.bits c.eighths.result c.args.block c.fits-block c.eighths.ensures
