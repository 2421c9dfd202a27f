use Rattle.std.proofs.Common.{option_map, refl}
use Rattle.tree_construction.specs.Document.{with_parent}
use Rattle.tree_arena.specs.Children.{number}
use Rattle.tree_arena.proofs.NodeRows.{changed-absent, changed-row}
use Rattle.tree_arena.proofs.rows.set_parent.Goals as goal

pub returns-in-Some : goal.returns-in-Some
returns-in-Some g c =
    changed-row (with_parent (option_map number c.args.parent)) (λ n r. refl) c.args.nodes.now c.in-Some.at c.args.id.0 c.index-nodes-at.result _ c.in-Some.ensures refl

pub returns-in_default : goal.returns-in_default
returns-in_default g c = changed-absent (with_parent (option_map number c.args.parent)) c.args.nodes.now c.args.id.0 c.in_default.ensures
