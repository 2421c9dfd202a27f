use Rattle.std.proofs.Common.{ap, sym, ◌∙◌}
use Rattle.std.proofs.lemmas.Result.{on_ok_weaker}
use Rattle.tree_builder.proofs.RunActions.{repeated_replace}
use Rattle.tree_builder.proofs.builder.Builder.replace_text.Goals as goal

pub returns : goal.returns
returns g c =
    on_ok_weaker c.replace_times.result
    (λ e. e ∙ ap (λ q. record c.args.self.now { parser = q }) (sym (repeated_replace c.args.text.now c.args.self.now.parser)))
    c.replace_times.ensures
