use Rattle.std.proofs.Common.{◌≡◌, ◌++◌, drop}
use Rattle.html5extract.specs.TokenLines.{lines_added}
use Rattle.html5programs.specs.Fronts.{in_front}
use Rattle.html5extract.proofs.token_lines.push_lines.Given as goal

abbrev pub invariant-loop-byte : goal.invariant-loop-byte
invariant-loop-byte g l =
    l.lines.items ++ lines_added (in_front l.front) l.begun (drop l.byte-index l.bytes)
    ≡ l.initial.lines.items ++ lines_added (in_front l.front) l.initial.begun l.bytes
