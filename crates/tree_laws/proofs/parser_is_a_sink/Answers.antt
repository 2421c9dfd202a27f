use Rattle.tree_laws.proofs.TextLaws.{empty-text, texts-join}
use Rattle.tree_laws.proofs.parser_is_a_sink.Goals as goal

pub returns-clause-joins : goal.returns-clause-joins
returns-clause-joins c = texts-join

pub returns-clause-empty : goal.returns-clause-empty
returns-clause-empty c = empty-text
