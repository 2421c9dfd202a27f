use Rattle.std.proofs.Common.{ap, sym, ◌∙◌}
use Rattle.std.proofs.lemmas.Result.{on_ok_weaker}
use Rattle.tree_builder.proofs.RunActions.{inserted_all}
use Rattle.tree_builder.proofs.builder.Builder.insert_all.Goals as goal

pub returns : goal.returns
returns g c =
    on_ok_weaker c.insert_text.result
    (λ e. e ∙ ap (λ q. record c.args.self.now { parser = q }) (sym (inserted_all c.args.text.now c.args.self.now.parser)))
    c.insert_text.ensures
