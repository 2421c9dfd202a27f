use Rattle.tree_names.proofs.NameTables.{name-read}
use Rattle.tree_names.proofs.known.KnownName.as_str.Goals as goal

pub returns : goal.returns
returns c = name-read c.all_names.result.now c.args.self.place _ c.all_names.ensures c.args.self.known
