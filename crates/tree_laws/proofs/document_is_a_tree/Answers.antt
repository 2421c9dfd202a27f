use Rattle.tree_laws.proofs.NoLoops.{parents-outside, templates-outside}
use Rattle.tree_laws.proofs.Rows.{rows-have-parents}
use Rattle.tree_laws.proofs.TextLaws.{messages-keep-tree, open-elements-are-nested, text-keeps-tree}
use Rattle.tree_laws.proofs.document_is_a_tree.Goals as goal

pub returns-clause-messages : goal.returns-clause-messages
returns-clause-messages c = messages-keep-tree

pub returns-clause-text : goal.returns-clause-text
returns-clause-text c = text-keeps-tree

pub returns-clause-parents : goal.returns-clause-parents
returns-clause-parents c edits n parent tree is = parents-outside edits tree n parent is

pub returns-clause-templates : goal.returns-clause-templates
returns-clause-templates c edits n template tree is = templates-outside edits tree n template is

pub returns-clause-stack : goal.returns-clause-stack
returns-clause-stack c = open-elements-are-nested

pub returns-clause-rows : goal.returns-clause-rows
returns-clause-rows c edits n orderly tree = rows-have-parents edits orderly tree n
