use Rattle.std.proofs.Common.{ap, sym, ◌∙◌}
use Rattle.std.proofs.lemmas.Result.{on_ok_weaker}
use Rattle.tree_builder.proofs.RunActions.{repeated_null}
use Rattle.tree_builder.proofs.builder.Builder.foster_nulls.Goals as goal

pub returns : goal.returns
returns g c =
    on_ok_weaker c.foster_null_times.result
    (λ e. e ∙ ap (λ q. record c.args.self.now { parser = q }) (sym (repeated_null c.args.text.now c.args.self.now.parser c.requires)))
    c.foster_null_times.ensures
