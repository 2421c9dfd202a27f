use Rattle.html5names.specs.Attributes.{attributes}
use Rattle.html5names.proofs.attributes.is_known_attribute.Goals as goal

pub returns : goal.returns
unfolding attributes
returns c = c.is_listed.ensures
