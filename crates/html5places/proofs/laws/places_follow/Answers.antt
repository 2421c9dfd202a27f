use Rattle.html5places.proofs.Following.{all-follow}
use Rattle.html5places.proofs.laws.places_follow.Goals as goal

pub returns : goal.returns
returns c = all-follow
