use denote.Shadow.{shadow}
use denote.Text.{Utf8}
use Rattle.std.proofs.Common.{length}
use Rattle.std.specs.List.{slice_split}
use Rattle.markup5ever.specs.NamedReferences.{references_of}
use Rattle.html5table.specs.Listed.{is_comma}
use Rattle.html5table.proofs.Lists.{TakenOf}
use Rattle.html5table.proofs.list.entries_of.Given as goal

abbrev pub invariant-loop-entry : goal.invariant-loop-entry
invariant-loop-entry g l =
    shadow (Utf8 l.rest) × TakenOf (slice_split is_comma l.list) (references_of l.entries.items) (slice_split is_comma l.rest)

abbrev pub decreases-loop-entry : goal.decreases-loop-entry
decreases-loop-entry g l = length l.rest
