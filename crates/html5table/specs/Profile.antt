-- A short table, of a program that was given no other: a few of the standard's references, in the order of their names.
use Rattle.std.specs.Prelude.{ℕ, List, [], ◌∷◌, None, Some, codes}
use Rattle.markup5ever.specs.NamedReferences.{NamedReference}

abbrev pub one : List ℕ → ℕ → NamedReference
one name character = record { name = name; first = character; second = None }

abbrev pub two : List ℕ → ℕ → ℕ → NamedReference
two name first second = record { name = name; first = first; second = Some second }

unfoldable pub profile_entries : List NamedReference
profile_entries =
    one (codes "amp") 0x26
    ∷ one (codes "amp;") 0x26
    ∷ one (codes "gt") 0x3E
    ∷ one (codes "gt;") 0x3E
    ∷ one (codes "lt") 0x3C
    ∷ one (codes "lt;") 0x3C
    ∷ two (codes "nGt;") 0x226B 0x20D2
    ∷ one (codes "not") 0xAC
    ∷ one (codes "not;") 0xAC
    ∷ one (codes "notin;") 0x2209
    ∷ one (codes "quot") 0x22
    ∷ one (codes "quot;") 0x22
    ∷ []
