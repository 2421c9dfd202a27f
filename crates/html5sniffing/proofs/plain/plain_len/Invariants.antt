-- What was counted and what is left make the whole.
use Rattle.std.proofs.Common.{◌≡◌, ◌+◌, length}
use Rattle.std.specs.List.{prefix_len}
use Rattle.html5encodings.specs.Iso2022Jp.{is_plain}
use Rattle.html5sniffing.proofs.plain.plain_len.Given as goal

abbrev pub invariant-loop-bytes : goal.invariant-loop-bytes
invariant-loop-bytes l =
    (prefix_len is_plain l.initial.bytes ≡ l.count + prefix_len is_plain l.bytes) × (l.count + length l.bytes ≡ length l.initial.bytes)

abbrev pub decreases-loop-bytes : goal.decreases-loop-bytes
decreases-loop-bytes l = length l.bytes
