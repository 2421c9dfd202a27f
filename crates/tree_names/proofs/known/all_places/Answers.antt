use Rattle.std.proofs.Common.{refl}
use Rattle.tree_construction.specs.Names.{all_names}
use Rattle.tree_names.specs.Slots.{finds_all}
use Rattle.tree_names.proofs.known.all_places.Goals as goal

pub returns-clause-finds : goal.returns-clause-finds
unfolding finds_all all_names
returns-clause-finds c = refl
