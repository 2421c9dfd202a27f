use denote.Shadow.{shadow}
use denote.Text.{Utf8}
use Rattle.std.proofs.Common.{◌≡◌, length}
use Rattle.std.specs.List.{slice_split}
use Rattle.std.specs.Option.{is_some}
use Rattle.html5table.specs.Listed.{entries_said, is_comma}
use Rattle.html5table.proofs.list.are_entries.Given as goal

abbrev pub invariant-loop-entry : goal.invariant-loop-entry
invariant-loop-entry l =
    shadow (Utf8 l.rest) × (is_some (entries_said (slice_split is_comma l.list)) ≡ is_some (entries_said (slice_split is_comma l.rest)))

abbrev pub decreases-loop-entry : goal.decreases-loop-entry
decreases-loop-entry l = length l.rest
