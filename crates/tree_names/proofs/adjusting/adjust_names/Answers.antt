use Rattle.std.proofs.Common.{map, ap, ◌∙◌, arith}
use Rattle.std.specs.Prelude.{string_bytes}
use Rattle.markup5ever.specs.Names.{AttributeOf, QualifiedName, attribute_of}
use Rattle.tree_construction.specs.Adjusting.{adjusted_in}
use Rattle.tree_names.proofs.Loops.{adjusts-next}
use Rattle.tree_names.proofs.adjusting.adjust_names.Goals as goal

pub loop-at-preserved : goal.loop-at-preserved
loop-at-preserved g c =
    let f = adjusted_in (map (λ other. other.now) c.args.cases.now) in
    let with_name : QualifiedName → AttributeOf = λ name. record { name = name; value = string_bytes c.index_mut.result.now.value } in
    adjusts-next attribute_of f c.loop-at.attributes.items c.args.attributes.now.items c.loop-at.at _ c.index_mut.result.now c.loop-at.invariant (omega arith)
    (ap with_name c.in_ok-adjust_name.ensures ∙ ap (λ x. f (attribute_of x)) c.index_mut.ensures.value)
