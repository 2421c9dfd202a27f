use Rattle.html5names.specs.Elements.{elements}
use Rattle.html5names.proofs.elements.is_known_element.Goals as goal

pub returns : goal.returns
unfolding elements
returns c = c.is_listed.ensures
