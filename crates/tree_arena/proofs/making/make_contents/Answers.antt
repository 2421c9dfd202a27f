use Rattle.std.proofs.Common.{◌≡◌, suc, Some, ap, arith, length, rules, vec_len, ◌∷◌, ◌∙◌}
use Rattle.tree_construction.specs.Document.{Row, changed, new_row}
use Rattle.tree_construction.specs.Document.What.{TemplateContents}
use Rattle.tree_arena.specs.Rows.{rows_of}
use Rattle.tree_arena.proofs.making.make_contents.Goals as goal

pub returns-clause-ok : goal.returns-clause-ok
returns-clause-ok g c =
    let t = c.args.template.0 in
    let len : vec_len c.args.nodes.now ≡ length c.args.nodes.now.items = search rules in
    let len_given : vec_len c.give_contents.new.nodes ≡ length c.give_contents.new.nodes.items = search rules in
    let kept = c.give_contents.ensures.count in
    let m = c.in_ok-make.ensures.ok in
    let f : Row → Row = λ r. record r { contents = Some (suc t) } in
    let n = m.number in
    let next : c.in_ok-make.field-0.0 ≡ suc t = omega (arith, n) in
    let count = m.count in
    λ _. record {
      number = omega arith;
      rows = m.rows ∙ (ap (λ k. new_row k TemplateContents ∷ rows_of c.give_contents.new.nodes.items) next
          ∙ ap (λ l. new_row (suc t) TemplateContents ∷ l) (c.give_contents.ensures.rows
          ∙ ap (λ k. let h : Row → Row = λ r. record r { contents = Some k } in changed t h (rows_of c.args.nodes.now.items)) (omega arith)));
      count = omega (arith, count);
    }
