use Rattle.std.proofs.Common.{◌++◌, ap, refl}
use Rattle.html5tree.specs.Nested.{Nested}
use Rattle.html5cleaner.specs.Kept.{piece_where}
use Rattle.html5cleaner.proofs.TreeSteps.{settles-tree}
use Rattle.html5cleaner.proofs.in_tree.write_in_tree.Goals as goal

pub returns : goal.returns
returns g c =
    settles-tree c.args.page.now c.append.new.self c.new-part.result c.write_step.new.page c.args.opened.now _ c.copy_from.new.self c.args.ends
    (piece_where c.args.run.now ++ piece_where c.args.tag.now) refl (ap (λ (n : Nested). n.opened) c.in_ok-copy_from.ensures) (ap (λ (n : Nested). n.limit) c.in_ok-copy_from.ensures)
    c.new-part.ensures c.in_ok-write_step.ensures c.in_ok-append.ensures.written
