use Rattle.std.proofs.Common.{ap, ◌∷◌, ◌∙◌}
use Rattle.std.specs.Prelude.{reverse}
use Rattle.tree_lists.proofs.Reversed.{reverse-push}
use Rattle.tree_lists.proofs.stack.Stack.push.Goals as goal

pub returns-clause-ok : goal.returns-clause-ok
returns-clause-ok g c =
    ap reverse c.in_ok-push.ensures.items ∙ (reverse-push c.self.inside.items.items c.args.item ∙ ap (λ ys. c.args.item ∷ ys) c.self.view_is)
