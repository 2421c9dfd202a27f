-- Elements that are open, by the characters of their names, innermost first.
use Rattle.std.specs.Prelude.{ℕ, suc, Bool, List, [], ◌∷◌, map, reverse, chars, string_bytes, String, if◌then◌else◌}
use Rattle.std.specs.List.{list_any}
use Rattle.std.specs.Str.{bytes_eq}

-- whether one of this name is open
unfoldable pub is_open : List (List ℕ) → List ℕ → Bool
is_open opened name = list_any (λ inner. bytes_eq inner name) opened

-- how many there are down to the innermost of this name, with that one
unfoldable pub reach : List (List ℕ) → List ℕ → ℕ
reach [] name = 0
reach (inner ∷ opened) name = if bytes_eq inner name then 1 else suc (reach opened name)

-- how many an end tag of this name closes: those opened inside the innermost of its name, and that one; if none is open it closes none
unfoldable pub closed_by : List (List ℕ) → List ℕ → ℕ
closed_by opened name = if is_open opened name then reach opened name else 0

-- as code has them: their names, innermost last
abbrev pub name_of : {Z : Type 0} → String Z → List ℕ
name_of name = chars (string_bytes name)

abbrev pub names_of : {Z : Type 0} → List (String Z) → List (List ℕ)
names_of names = reverse (map name_of names)
