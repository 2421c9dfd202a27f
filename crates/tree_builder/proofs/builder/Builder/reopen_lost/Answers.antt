use Rattle.std.proofs.Common.{ap, ◌∙◌}
use Rattle.std.proofs.lemmas.Result.{on_ok_weaker}
use Rattle.std.specs.Prelude.{map}
use Rattle.tree_lists.specs.Formatting.{listed_of}
use Rattle.tree_builder.specs.Built.{on_parser, reopened_all}
use Rattle.tree_builder.proofs.Reopened.{all_reopened}
use Rattle.tree_builder.proofs.builder.Builder.reopen_lost.Goals as goal

pub returns-clause-parser : goal.returns-clause-parser
returns-clause-parser g c =
    let lost = map (listed_of g.S.Handle.NodeHandle.node g.T.TagAttributes.said) c.in_ok-lost.lost in
    on_ok_weaker c.reopen_all.result
    (λ e. e ∙ (ap (on_parser (reopened_all lost)) c.in_ok-lost.ensures.list
    ∙ ap (λ q. record c.args.self.now { parser = q }) (all_reopened lost c.args.self.now.parser c.in_ok-lost.ensures.lost)))
    c.reopen_all.ensures

pub returns-clause-kinds : goal.returns-clause-kinds
returns-clause-kinds g c = on_ok_weaker c.reopen_all.result (λ e. c.in_ok-lost.ensures.kinds) c.reopen_all.ensures
