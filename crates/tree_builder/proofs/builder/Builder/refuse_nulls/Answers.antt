use Rattle.std.proofs.Common.{ap, sym, ◌∙◌}
use Rattle.std.proofs.lemmas.Result.{on_ok_weaker}
use Rattle.tree_builder.proofs.RunActions.{refused-all}
use Rattle.tree_builder.proofs.builder.Builder.refuse_nulls.Goals as goal

pub returns : goal.returns
returns g c =
    on_ok_weaker c.refuse_text.result
    (λ e. e ∙ ap (λ q. record c.args.self.now { parser = q }) (sym (refused-all c.args.text.now c.args.self.now.parser c.requires)))
    c.refuse_text.ensures
