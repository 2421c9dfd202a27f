use Rattle.tree_laws.proofs.TextLaws.{messages-are-orderly, text-is-orderly}
use Rattle.tree_laws.proofs.nodes_are_numbered.Goals as goal

pub returns-clause-messages : goal.returns-clause-messages
returns-clause-messages c = messages-are-orderly

pub returns-clause-text : goal.returns-clause-text
returns-clause-text c = text-is-orderly
