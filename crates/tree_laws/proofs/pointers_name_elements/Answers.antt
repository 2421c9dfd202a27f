use Rattle.tree_laws.proofs.TextLaws.{pointers-name}
use Rattle.tree_laws.proofs.pointers_name_elements.Goals as goal

pub returns-clause-head : goal.returns-clause-head
returns-clause-head c options messages = (pointers-name options messages).of_head

pub returns-clause-form : goal.returns-clause-form
returns-clause-form c options messages = (pointers-name options messages).of_form
