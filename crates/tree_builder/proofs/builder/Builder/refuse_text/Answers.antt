use Rattle.std.proofs.Common.{ap, sym, ◌∙◌}
use Rattle.std.proofs.lemmas.Result.{on_ok_weaker}
use Rattle.tree_builder.proofs.RunActions.{repeated_refuse}
use Rattle.tree_builder.proofs.builder.Builder.refuse_text.Goals as goal

pub returns : goal.returns
returns g c =
    on_ok_weaker c.refuse_times.result
    (λ e. e ∙ ap (λ q. record c.args.self.now { parser = q }) (sym (repeated_refuse c.args.text.now c.args.self.now.parser)))
    c.refuse_times.ensures
