use Rattle.std.proofs.Common.{◌≡◌, ◌+◌, drop, map}
use Rattle.html5serialize.specs.Refusals.{repeat_from}
use Rattle.markup5ever.specs.Names.{attribute_of}
use Rattle.html5serialize.proofs.checks.repeat_from.Given as goal

-- none before this one has the name
abbrev pub invariant-loop-k : goal.invariant-loop-k
invariant-loop-k g l =
    repeat_from (attribute_of l.attribute) l.index (map attribute_of l.later)
    ≡ repeat_from (attribute_of l.attribute) (l.index + l.k) (map attribute_of (drop l.k l.later))
