use Rattle.std.proofs.Common.{◌≡◌, ◌-◌, ◌≤◌, length, take}
use Rattle.std.specs.Prelude.{◌==◌, count_by}
use Rattle.html5reading.specs.Characters.{line_feed}
use Rattle.html5feed.proofs.input.line_feeds.Given as goal

abbrev pub invariant-loop-at : goal.invariant-loop-at
invariant-loop-at l = (l.found ≡ count_by (λ b. b == line_feed) (take l.at l.bytes)) × (l.found ≤ l.at) × (l.at ≤ length l.bytes)

abbrev pub decreases-loop-at : goal.decreases-loop-at
decreases-loop-at l = length l.bytes - l.at
