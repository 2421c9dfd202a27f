use Rattle.std.proofs.Common.{ap, ◌∙◌, arith}
use Rattle.markup5ever.specs.Names.{attribute_of}
use Rattle.html5ever_interface.proofs.Clones.{map-clones}
use Rattle.tree_names.proofs.attributes.clone_attributes.Goals as goal

pub loop-attribute-preserved : goal.loop-attribute-preserved
loop-attribute-preserved g c =
    rw c.in_ok-push.ensures.items
    (map-clones _ _ _ _ _ c.loop-attribute.invariant (c.in_ok-try_clone.ensures ∙ ap attribute_of c.attribute-item.is) (omega arith))
