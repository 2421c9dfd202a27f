use Rattle.tree_laws.proofs.Growing.{extends-itself}
use Rattle.tree_laws.proofs.GrowingSteps.{grows-told_all}
use Rattle.tree_laws.proofs.TextLaws.{grows-so-far}
use Rattle.tree_laws.proofs.edits_are_only_added.Goals as goal

pub returns-clause-messages : goal.returns-clause-messages
returns-clause-messages c = λ p more. grows-told_all p.page.edits more p (extends-itself p.page.edits)

pub returns-clause-text : goal.returns-clause-text
returns-clause-text c = grows-so-far
