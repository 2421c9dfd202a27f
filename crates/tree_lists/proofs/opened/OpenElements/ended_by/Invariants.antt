use Rattle.std.proofs.Common.{◌≡◌, drop}
use Rattle.tree_construction.specs.Adoption.{ended_by}
use Rattle.tree_names.specs.ElementNames.{name_bytes}
use Rattle.tree_lists.proofs.opened.OpenElements.ended_by.Given as goal

abbrev pub invariant-loop-depth : goal.invariant-loop-depth
invariant-loop-depth g l = ended_by (name_bytes l.name) (drop l.depth l.self) ≡ ended_by (name_bytes l.name) l.self
