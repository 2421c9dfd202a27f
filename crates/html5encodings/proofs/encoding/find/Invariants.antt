use Rattle.std.proofs.Common.{◌≡◌, length, map}
use Rattle.html5encodings.specs.Encodings.{found}
use Rattle.html5encodings.proofs.encoding.find.Given as goal

abbrev pub invariant-loop-rows : goal.invariant-loop-rows
invariant-loop-rows l = found (map (λ row. (row.0.now, row.1)) l.rows) l.label ≡ found (map (λ row. (row.0.now, row.1)) l.initial.rows) l.label

abbrev pub decreases-loop-rows : goal.decreases-loop-rows
decreases-loop-rows l = length l.rows
