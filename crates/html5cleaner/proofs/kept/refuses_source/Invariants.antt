use Rattle.std.proofs.Common.{◌≡◌, drop, map}
use Rattle.std.specs.List.{list_any}
use Rattle.markup5ever.specs.Names.{attribute_of}
use Rattle.html5cleaner.specs.Clean.{is_refused_source}
use Rattle.html5cleaner.proofs.kept.refuses_source.Given as goal

-- none before this one is such a `src`
abbrev pub invariant-loop-attribute : goal.invariant-loop-attribute
invariant-loop-attribute g l =
    list_any (is_refused_source l.policy) (map attribute_of l.attributes) ≡ list_any (is_refused_source l.policy) (map attribute_of (drop l.attribute-index l.attributes))
