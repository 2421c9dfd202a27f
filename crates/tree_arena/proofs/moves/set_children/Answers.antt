use Rattle.std.proofs.Common.{refl}
use Rattle.tree_construction.specs.Document.{with_children}
use Rattle.tree_arena.specs.Children.{children_of}
use Rattle.tree_arena.proofs.NodeRows.{changed-absent, changed-row}
use Rattle.tree_arena.proofs.moves.set_children.Goals as goal

pub returns-in-Some : goal.returns-in-Some
returns-in-Some g c =
    changed-row (with_children (λ own. children_of c.args.children.items)) (λ n r. refl) c.args.nodes.now c.in-Some.at c.args.target.0 c.index-nodes-at.result _ c.in-Some.ensures refl

pub returns-in_default : goal.returns-in_default
returns-in_default g c = changed-absent (with_children (λ own. children_of c.args.children.items)) c.args.nodes.now c.args.target.0 c.in_default.ensures
