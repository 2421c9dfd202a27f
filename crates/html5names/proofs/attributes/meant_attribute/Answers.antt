use Rattle.html5names.specs.Attributes.{attributes}
use Rattle.html5names.proofs.attributes.meant_attribute.Goals as goal

pub returns : goal.returns
unfolding attributes
returns c = c.meant_among.ensures
