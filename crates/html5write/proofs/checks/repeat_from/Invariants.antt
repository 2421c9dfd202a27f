use Rattle.std.proofs.Common.{◌≡◌, ◌+◌, drop, map}
use Rattle.html5write.specs.Refusals.{repeat_from}
use Rattle.html5write.specs.Writing.{attribute_of}
use Rattle.html5write.proofs.checks.repeat_from.Given as goal

-- none before this one has the name
abbrev pub invariant-loop-k : goal.invariant-loop-k
invariant-loop-k l =
    repeat_from (attribute_of l.attribute) l.index (map attribute_of l.later)
    ≡ repeat_from (attribute_of l.attribute) (l.index + l.k) (map attribute_of (drop l.k l.later))
