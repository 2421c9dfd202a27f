use Rattle.std.proofs.Common.{◌≡◌, drop, map}
use Rattle.std.specs.List.{list_any}
use Rattle.html5write.specs.Writing as writing
use Rattle.html5cleaner.specs.Clean.{is_href}
use Rattle.html5cleaner.proofs.attributes.has_href.Given as goal

-- none before this one is an `href`
abbrev pub invariant-loop-attribute : goal.invariant-loop-attribute
invariant-loop-attribute l =
    list_any is_href (map writing.attribute_of l.attributes) ≡ list_any is_href (map writing.attribute_of (drop l.attribute-index l.attributes))
