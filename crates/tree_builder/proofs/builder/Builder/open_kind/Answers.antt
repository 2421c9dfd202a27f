use Rattle.std.proofs.Common.{refl}
use Rattle.tree_lists.specs.Opened.{open_of}
use Rattle.tree_builder.proofs.builder.Builder.open_kind.Goals as goal

pub returns : goal.returns
returns g c = (open_of g.S.Handle.NodeHandle.node c.at.result.now, (rw (← c.self.view_is) c.at.ensures, refl))
