use Rattle.std.proofs.Common.{arith, refl}
use Rattle.html5reading.specs.Tag.{has_attribute}
use Rattle.html5partial.proofs.AttributeNames.{names-more}
use Rattle.html5partial.proofs.indexed_tag.index.Goals as goal

pub loop-attribute-init : goal.loop-attribute-init
unfolding has_attribute
loop-attribute-init g c = λ name. rw c.clear.ensures.empty refl

pub loop-attribute-preserved : goal.loop-attribute-preserved
loop-attribute-preserved g c =
    names-more c.loop-attribute.names c.add_name.new.names c.args.attributes.now c.loop-attribute.attribute-index c.attribute-item.result
    c.loop-attribute.invariant c.attribute-item.is (omega arith) c.in_ok-add_name.ensures
