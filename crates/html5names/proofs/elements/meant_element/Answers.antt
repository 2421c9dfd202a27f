use Rattle.html5names.specs.Elements.{elements}
use Rattle.html5names.proofs.elements.meant_element.Goals as goal

pub returns : goal.returns
unfolding elements
returns c = c.meant_among.ensures
