use Rattle.html5check.proofs.Matching.{found-match}
use Rattle.html5check.proofs.laws.unmatched_tags_are_found.Goals as goal

pub returns : goal.returns
returns c = found-match
