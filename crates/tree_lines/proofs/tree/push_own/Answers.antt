use Rattle.std.proofs.Common.{◌+◌, ◌++◌, ap, sym, ◌∙◌, append_assoc, add-one, map, string_bytes}
use Rattle.std.proofs.lemmas.Result.{on_ok_weaker}
use Rattle.markup5ever.specs.Names.{attribute_of}
use Rattle.tree_arena.specs.Rows.{what_of}
use Rattle.tree_lines.specs.Lines.{attribute_lines, element_text, in_order, line, own_lines}
use Rattle.tree_lines.proofs.Appended.{element_lines}
use Rattle.tree_lines.proofs.tree.push_own.Goals as goal

pub returns-in_ok-push_element-in-Element : goal.returns-in_ok-push_element-in-Element
returns-in_ok-push_element-in-Element g c =
    let old = c.args.output.now.items in
    let depth = c.args.depth in
    let e = c.in-Element in
    let start = line depth (element_text e.namespace c.as_str.result.now) in
    let rest = attribute_lines (depth + 1) (in_order (map attribute_of c.deref.result.now)) in
    let whole = element_lines depth (depth + 1) e.namespace (string_bytes e.name) c.as_str.result.now (map attribute_of e.attributes.items) (map attribute_of c.deref.result.now) (add-one depth)
    c.as_str.ensures.value (ap (map attribute_of) c.deref.ensures.value) ∙ ap (λ w. own_lines depth (what_of w)) (sym e.is) in
    on_ok_weaker c.push_attributes.result (λ h. h ∙ (ap (λ l. l ++ rest) c.in_ok-push_element-in-Element.ensures ∙ (append_assoc old start rest ∙ ap (λ l. old ++ l) whole)))
    c.push_attributes.ensures
