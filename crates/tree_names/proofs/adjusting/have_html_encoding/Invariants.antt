use Rattle.std.proofs.Common.{◌≡◌, map, drop}
use Rattle.markup5ever.specs.Names.{attribute_of}
use Rattle.tree_construction.specs.Names.{has_such, says_html}
use Rattle.tree_names.proofs.adjusting.have_html_encoding.Given as goal

-- none before this one says so
abbrev pub invariant-loop-attribute : goal.invariant-loop-attribute
invariant-loop-attribute g l =
    has_such says_html (map attribute_of l.attributes) ≡ has_such says_html (map attribute_of (drop l.attribute-index l.attributes))
