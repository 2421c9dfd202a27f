use Rattle.std.proofs.Common.{◌≡◌, length, map, arith, rules, vec_len}
use Rattle.markup5ever.specs.Names.{attribute_of}
use Rattle.tree_arena.proofs.Lacking.{adding-all, adding-next, adding-none}
use Rattle.tree_arena.proofs.attributes.add_lacking.Goals as goal

pub loop-attribute-init : goal.loop-attribute-init
loop-attribute-init g c =
    let len : vec_len c.args.own.now ≡ length c.args.own.now.items = search rules in
    adding-none attribute_of c.args.more.now c.args.own.now.items c.len-count.result (omega arith)

pub loop-attribute-preserved : goal.loop-attribute-preserved
loop-attribute-preserved g c =
    adding-next attribute_of (map attribute_of c.args.own.now.items) c.args.more.now c.loop-attribute.own.items c.add_if_lacking.new.own.items c.len-count.result
    c.loop-attribute.attribute-index c.attribute-item.result c.loop-attribute.invariant (omega arith) c.attribute-item.is c.in_ok-add_if_lacking.ensures

pub returns : goal.returns
returns g c =
    adding-all attribute_of (map attribute_of c.args.own.now.items) c.args.more.now c.loop-attribute.own.items c.len-count.result c.loop-attribute.attribute-index
    c.loop-attribute.invariant (omega arith)
