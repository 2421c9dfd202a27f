-- Names as lists of the code have them.
use Rattle.std.specs.Prelude.{ℕ, Bool, true, false, List, [], ◌∷◌, map, not, ◌&&◌}
use Rattle.std.specs.Borrow.{Bor}
use Rattle.std.specs.Cmp.Lexicographic.{slice_cmp}
use Rattle.std.specs.Ordering.{is_lt, nat_cmp}

-- the bytes of listed names
abbrev pub names_of : List (Bor (List ℕ)) → List (List ℕ)
names_of listed = map (λ name. name.now) listed

-- whether the first of these names comes before this one
abbrev pub begins_before : List (List ℕ) → List ℕ → Bool
begins_before [] name = false
begins_before (first ∷ rest) name = is_lt (slice_cmp nat_cmp first name)

-- whether no name comes before the one in front of it, by the order of bytes
abbrev pub is_in_order : List (List ℕ) → Bool
is_in_order [] = true
is_in_order (name ∷ rest) = not (begins_before rest name) && is_in_order rest
