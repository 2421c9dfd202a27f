use Rattle.std.proofs.Common.{ap, sym, ◌∙◌}
use Rattle.std.proofs.lemmas.Result.{on_ok_weaker}
use Rattle.tree_construction.specs.Construction.{enough, process}
use Rattle.tree_builder.specs.Built.{on_parser}
use Rattle.tree_builder.specs.Taking.{other_token}
use Rattle.tree_builder.proofs.Processing.{step_other}
use Rattle.tree_builder.proofs.builder.Builder.take_other.Goals as goal

pub returns : goal.returns
returns g c =
    let now = c.args.self.now in
    on_ok_weaker c.process_other.result
    (λ e. e ∙ (ap (on_parser (λ p. process (enough p) (other_token c.args.token.now) p)) c.begin_token.ensures
    ∙ ap (λ q. record now { parser = q }) (sym (step_other c.args.token.now now.parser))))
    c.process_other.ensures
