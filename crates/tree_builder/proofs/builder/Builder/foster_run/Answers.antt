use Rattle.std.proofs.Common.{ap, ◌∙◌}
use Rattle.std.proofs.lemmas.Result.{on_ok_weaker}
use Rattle.tree_builder.proofs.RunActions.{flushed-all}
use Rattle.tree_builder.proofs.builder.Builder.foster_run.Goals as goal

pub returns : goal.returns
returns g c =
    on_ok_weaker c.foster_text.result
    (λ e. e ∙ ap (λ q. record c.args.self.now { parser = q }) (flushed-all c.args.text.now c.args.self.now.parser))
    c.foster_text.ensures.parser
