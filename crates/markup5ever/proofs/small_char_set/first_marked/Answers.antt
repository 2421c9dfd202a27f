use Rattle.markup5ever.proofs.LaneLemmas.{IsFirst-lowest}
use Rattle.markup5ever.proofs.small_char_set.first_marked.Goals as goal

pub returns-clause-within : goal.returns-clause-within
returns-clause-within c = (IsFirst-lowest c.args.marks c.lowest_bit.result c.fits-marks.0 c.lowest_bit.ensures).within

pub returns-clause-unmarked : goal.returns-clause-unmarked
returns-clause-unmarked c = (IsFirst-lowest c.args.marks c.lowest_bit.result c.fits-marks.0 c.lowest_bit.ensures).unmarked

pub returns-clause-marked : goal.returns-clause-marked
returns-clause-marked c = (IsFirst-lowest c.args.marks c.lowest_bit.result c.fits-marks.0 c.lowest_bit.ensures).marked
