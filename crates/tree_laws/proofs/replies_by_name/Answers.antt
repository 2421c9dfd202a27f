use Rattle.tree_laws.proofs.ByName.{replies-by-name}
use Rattle.tree_laws.proofs.replies_by_name.Goals as goal

pub returns : goal.returns
returns c = replies-by-name
