use Rattle.std.proofs.Common.{arith, ap, sym, ◌-◌, ◌∙◌}
use Rattle.std.specs.Prelude.{Some, None, if◌then◌else◌}
use Rattle.tree_lists.proofs.OpenPlaces.{second-at, second-none}
use Rattle.tree_lists.specs.Opened.{open_of}
use Rattle.tree_lists.proofs.opened.OpenElements.second_body.Goals as goal

pub returns-then-count-lt2 : goal.returns-then-count-lt2
returns-then-count-lt2 g c = sym (second-none c.args.self.now (omega arith))

pub returns-then-is_body : goal.returns-then-is_body
returns-then-is_body g c =
    let found = second-at c.args.self.now (c.len-count.result - 2) (open_of g.H.NodeHandle.node c.at-element.result.now) _ c.at-element.ensures (omega arith) in
    sym (found ∙ ap (λ t. if t then Some (g.H.NodeHandle.node c.at-element.result.now.handle) else None) (sym c.is_body.ensures ∙ c.if-is_body.true))

pub returns-else-is_body : goal.returns-else-is_body
returns-else-is_body g c =
    let found = second-at c.args.self.now (c.len-count.result - 2) (open_of g.H.NodeHandle.node c.at-element.result.now) _ c.at-element.ensures (omega arith) in
    sym (found ∙ ap (λ t. if t then Some (g.H.NodeHandle.node c.at-element.result.now.handle) else None) (sym c.is_body.ensures ∙ c.if-is_body.false))
