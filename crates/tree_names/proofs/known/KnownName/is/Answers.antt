use Rattle.tree_names.proofs.NameTables.{same-place}
use Rattle.tree_names.proofs.known.KnownName.is.Goals as goal

pub returns : goal.returns
returns c = same-place c.args.self.place c.args.other.place c.args.self.known c.args.other.known
