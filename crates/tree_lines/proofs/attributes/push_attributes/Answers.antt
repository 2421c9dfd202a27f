use Rattle.std.proofs.Common.{◌+◌, ◌++◌, ap, ◌∙◌, arith, drop, map}
use Rattle.tree_lines.specs.Lines.{attribute_line, attribute_lines}
use Rattle.tree_lines.specs.Shown.{seen, shown}
use Rattle.tree_lines.proofs.Appended.{appended-all, appended-more, attributes-more, attributes-none}
use Rattle.tree_lines.proofs.attributes.push_attributes.Goals as goal

pub loop-attribute-preserved : goal.loop-attribute-preserved
loop-attribute-preserved g c =
    let items = c.deref-attribute-items.result.now in
    let i = c.loop-attribute.attribute-index in
    let x = c.attribute-item.result in
    appended-more c.loop-attribute.output.items c.push_attribute.new.output.items (attribute_line c.args.depth (seen x)) (attribute_lines c.args.depth (shown (drop (i + 1) items)))
    (attribute_lines c.args.depth (shown (drop i items))) (c.args.output.now.items ++ attribute_lines c.args.depth (shown items)) c.in_ok-push_attribute.ensures
    (attributes-more seen c.args.depth items i x (omega arith) c.attribute-item.is) c.loop-attribute.invariant

pub returns : goal.returns
returns g c =
    let items = c.deref-attribute-items.result.now in
    let i = c.loop-attribute.attribute-index in
    appended-all c.loop-attribute.output.items (attribute_lines c.args.depth (shown (drop i items))) (c.args.output.now.items ++ attribute_lines c.args.depth (shown items))
    (attributes-none seen c.args.depth items i (omega arith)) c.loop-attribute.invariant
    ∙ ap (λ l. c.args.output.now.items ++ attribute_lines c.args.depth l) (ap (map seen) c.deref-attribute-items.ensures.value ∙ c.in_ok-ordered.ensures)
