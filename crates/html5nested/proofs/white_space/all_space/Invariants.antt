use Rattle.std.proofs.Common.{◌≡◌, ◌++◌, length, string_bytes}
use Rattle.std.specs.Prelude.{filter}
use Rattle.html5tree.specs.Fitting.{is_space}
use Rattle.html5nested.proofs.white_space.all_space.Given as goal

abbrev pub invariant-loop-byte : goal.invariant-loop-byte
invariant-loop-byte g l = string_bytes l.space ++ filter is_space l.left ≡ filter is_space l.text

abbrev pub decreases-loop-byte : goal.decreases-loop-byte
decreases-loop-byte g l = length l.left
