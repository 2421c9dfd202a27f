use Rattle.tree_parser.proofs.sink.TreeBuilderTokenSinkToken.process_text.Goals as goal

pub returns-clause-steps : goal.returns-clause-steps
returns-clause-steps g c = c.in_ok-take.ensures.steps c.args._line_number
