use Rattle.std.proofs.Common.{◌≡◌, drop}
use Rattle.html5encodings.specs.Gb18030.{last_range}
use Rattle.html5encodings.proofs.gb18030.last_range.Given as goal

abbrev pub invariant-loop-range : goal.invariant-loop-range
invariant-loop-range l = last_range (drop l.range-index l.ranges) l.pointer l.found ≡ last_range l.ranges l.pointer (0, 0x80)
