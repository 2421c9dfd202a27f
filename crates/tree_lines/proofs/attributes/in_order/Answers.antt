use Rattle.std.proofs.Common.{refl, sym, ◌∙◌, arith}
use Rattle.markup5ever.specs.Names.{attribute_of}
use Rattle.tree_lines.specs.Shown.{seen, shown}
use Rattle.tree_lines.proofs.Order.{in_order-all, in_order-next, inserted}
use Rattle.tree_lines.proofs.attributes.in_order.Goals as goal

pub loop-attribute-preserved : goal.loop-attribute-preserved
loop-attribute-preserved g c =
    let x = c.attribute-item.result in
    sym (in_order-next attribute_of c.args.attributes.now c.loop-attribute.attribute-index x (shown c.loop-attribute.ordered.items) (shown c.insert.new.self.items) (omega arith) c.attribute-item.is
    (inserted seen c.loop-attribute.ordered.items c.insert.new.self.items c.deref.result.now c.place_among-at.result _ (attribute_of x) c.in_ok-insert.ensures.items refl c.deref.ensures.value
    c.place_among-at.ensures.puts))
    ∙ c.loop-attribute.invariant

pub returns : goal.returns
returns g c =
    sym (in_order-all attribute_of c.args.attributes.now c.loop-attribute.attribute-index (shown c.loop-attribute.ordered.items) (omega arith)) ∙ c.loop-attribute.invariant
