use Rattle.std.proofs.Common.{refl}
use Rattle.tree_names.proofs.NameTables.{kind-read}
use Rattle.tree_construction.specs.Names.{is_among, kind_in, all_names, kind_of}
use Rattle.tree_names.proofs.known.KnownName.kind.Goals as goal

pub returns : goal.returns
unfolding is_among kind_in all_names kind_of
returns c = kind-read _ c.args.self.place _ refl c.args.self.known
