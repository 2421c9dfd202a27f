use Rattle.std.proofs.Common.{◌≡◌, ◌++◌, drop}
use Rattle.html5check.specs.Lines.{shown_bytes}
use Rattle.html5check.proofs.lines.push_shown.Given as goal

abbrev pub invariant-loop-byte : goal.invariant-loop-byte
invariant-loop-byte l = l.line.items ++ shown_bytes (drop l.byte-index l.bytes) ≡ l.initial.line.items ++ shown_bytes l.bytes
