use Rattle.html5sinks.proofs.Following.{keeps-tag}
use Rattle.html5sinks.proofs.pausing.pauses_follow_the_standard.Goals as goal

pub returns : goal.returns
returns c = λ s tag line keeps. keeps-tag tag.kind tag.name tag.attributes keeps
