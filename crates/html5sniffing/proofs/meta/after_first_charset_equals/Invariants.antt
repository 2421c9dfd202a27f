use Rattle.std.proofs.Common.{◌≡◌, length}
use Rattle.html5sniffing.specs.Meta.{after_first_charset_equals}
use Rattle.html5sniffing.proofs.meta.after_first_charset_equals.Given as goal

abbrev pub invariant-loop-bytes : goal.invariant-loop-bytes
invariant-loop-bytes l = after_first_charset_equals l.bytes ≡ after_first_charset_equals l.initial.bytes

abbrev pub decreases-loop-bytes : goal.decreases-loop-bytes
decreases-loop-bytes l = length l.bytes
