use Rattle.std.proofs.Common.{◌≡◌, ◌+◌, ◌≤◌, drop}
use Rattle.decoded_source.specs.Lines.{ends_in_cr, line_ends}
use Rattle.decoded_source.proofs.lines.line_ends.Given as goal

abbrev pub invariant-loop-byte : goal.invariant-loop-byte
invariant-loop-byte l = record {
  value : l.count + line_ends l.after_cr (drop l.byte-index l.bytes) ≡ line_ends l.fn.after_cr l.bytes;
  after_cr : ends_in_cr l.after_cr (drop l.byte-index l.bytes) ≡ ends_in_cr l.fn.after_cr l.bytes;
  bound : l.count ≤ l.byte-index;
}
