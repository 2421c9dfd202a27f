use Rattle.std.proofs.lemmas.Result.{on_ok_weaker}
use Rattle.tree_parser.proofs.sink.TreeBuilderTokenSinkToken.process_token.Goals as goal

pub returns-clause-steps : goal.returns-clause-steps
returns-clause-steps g c = on_ok_weaker c.take.result (λ steps. steps c.args._line_number) c.take.ensures.steps
