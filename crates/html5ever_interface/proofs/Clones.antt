-- Attributes that were cloned one after another.
use Rattle.std.proofs.Common.{◌≡◌, ℕ, ◌+◌, ◌<◌, List, [], ◌∷◌, ◌++◌, map, length, take, get_or, refl}
use Rattle.std.proofs.lemmas.List.{map-append, map_more}
use Rattle.markup5ever.specs.Names.{attribute_of}
use Rattle.markup5ever.specs.declared.interface.Attribute.{Attribute}

-- one more clone, after those of the first `i` attributes
pub map-clones : {Z : Type 0} (clones attrs : List (Attribute Z)) (i : ℕ) (clone other : Attribute Z)
    → map attribute_of clones ≡ map attribute_of (take i attrs)
    → attribute_of clone ≡ attribute_of (get_or attrs i other)
    → i < length attrs
    → map attribute_of (clones ++ clone ∷ []) ≡ map attribute_of (take (i + 1) attrs)
map-clones clones attrs i clone other before alike within =
    rw (map-append attribute_of clones (clone ∷ []), before, alike, map_more attribute_of attrs i other within) refl
