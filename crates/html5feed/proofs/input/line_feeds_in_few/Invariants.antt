use Rattle.std.proofs.Common.{◌≡◌, ◌≤◌, take}
use Rattle.std.specs.Prelude.{◌==◌, count_by}
use Rattle.html5reading.specs.Characters.{line_feed}
use Rattle.html5feed.proofs.input.line_feeds_in_few.Given as goal

abbrev pub invariant-loop-place : goal.invariant-loop-place
invariant-loop-place l = (l.found ≡ count_by (λ b. b == line_feed) (take l.place l.bytes)) × (l.found ≤ l.place)
