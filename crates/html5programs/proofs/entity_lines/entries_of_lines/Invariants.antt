use denote.Shadow.{shadow}
use denote.Text.{Utf8}
use Rattle.std.proofs.Common.{length}
use Rattle.std.specs.List.{slice_split}
use Rattle.markup5ever.specs.NamedReferences.{references_of}
use Rattle.html5programs.specs.References.{is_line_feed}
use Rattle.html5programs.proofs.EntityLines.{TakenOf}
use Rattle.html5programs.proofs.entity_lines.entries_of_lines.Given as goal

abbrev pub invariant-loop-line : goal.invariant-loop-line
invariant-loop-line g l =
    shadow (Utf8 l.rest) × TakenOf (slice_split is_line_feed l.text) (references_of l.entries.items) (slice_split is_line_feed l.rest)

abbrev pub decreases-loop-line : goal.decreases-loop-line
decreases-loop-line g l = length l.rest
