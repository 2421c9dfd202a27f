use Rattle.std.proofs.Common.{length}
use Rattle.html5names.proofs.slips.+rests.Given as goal

abbrev pub decreases-rests : goal.decreases-rests
decreases-rests l = length l.name.now
