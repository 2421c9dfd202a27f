use Rattle.std.proofs.Common.{ap, sym, ◌∙◌}
use Rattle.std.proofs.lemmas.List.{drop-map, take-map}
use Rattle.tree_lists.specs.Opened.{open_of, opened_of}
use Rattle.tree_lists.proofs.opened.OpenElements.take_front.Goals as goal

pub returns-clause-front : goal.returns-clause-front
returns-clause-front g c =
    rw (← c.self.view_is)
    (ap (opened_of g.H.NodeHandle.node) c.in_ok-front.ensures.front ∙ sym (take-map (open_of g.H.NodeHandle.node) c.args.depth c.self.inside.items))

pub returns-clause-rest : goal.returns-clause-rest
returns-clause-rest g c =
    rw (← c.self.view_is)
    (ap (opened_of g.H.NodeHandle.node) c.in_ok-front.ensures.rest ∙ sym (drop-map (open_of g.H.NodeHandle.node) c.args.depth c.self.inside.items))
