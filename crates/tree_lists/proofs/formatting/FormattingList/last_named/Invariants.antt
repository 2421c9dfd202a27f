use Rattle.std.proofs.Common.{◌≡◌, drop}
use Rattle.tree_construction.specs.Formatting.{last_named}
use Rattle.tree_names.specs.ElementNames.{name_bytes}
use Rattle.tree_lists.proofs.formatting.FormattingList.last_named.Given as goal

abbrev pub invariant-loop-depth : goal.invariant-loop-depth
invariant-loop-depth g l = last_named (name_bytes l.name) (drop l.depth l.self) ≡ last_named (name_bytes l.name) l.self
