-- Searches of a list, from a place on.
use Rattle.std.proofs.Common.{◌≡◌, ℕ, zero, suc, ◌+◌, ◌<◌, ◌≤◌, Bool, true, false, List, [], ◌∷◌, length, get_or, drop, map, refl, ap, sym, ◌∙◌}
use Rattle.std.specs.Prelude.{◌||◌, ◌&&◌}
use Rattle.std.specs.List.{list_all, list_any}
use Rattle.std.specs.Str.{bytes_eq}
use Rattle.std.proofs.lemmas.Bool.{false≢true}
use Rattle.std.proofs.lemmas.List.{at_drop_all, at_drop_more}
use Rattle.markup5ever.proofs.NameOrder.{bytes_eq-same}
use Rattle.html5policy.specs.Names.{is_one_of}

pub and-left : (a b : Bool) → (a && b) ≡ true → a ≡ true
and-left true b both = refl
and-left false b both = both

pub and-right : (a b : Bool) → (a && b) ≡ true → b ≡ true
and-right true b both = both
and-right false b both = absurd (false≢true both)

-- the next element passes, or a later one
pub any-next : {X Y : Type 0} (f : X → Y) (test : Y → Bool) (i : ℕ) (xs : List X) (x : X) → i < length xs → x ≡ get_or xs i x
    → list_any test (map f (drop i xs)) ≡ (test (f x) || list_any test (map f (drop (i + 1) xs)))
any-next f test i xs x within is =
    at_drop_more (λ l. list_any test (map f l)) xs i x within
    ∙ ap (λ y. test (f y) || list_any test (map f (drop (i + 1) xs))) (sym is)

pub any-here : {X Y : Type 0} (f : X → Y) (test : Y → Bool) (i : ℕ) (xs : List X) (x : X) → i < length xs → x ≡ get_or xs i x
    → test (f x) ≡ true → list_any test (map f (drop i xs)) ≡ true
any-here f test i xs x within is passes =
    any-next f test i xs x within is ∙ ap (λ b. b || list_any test (map f (drop (i + 1) xs))) passes

pub any-later : {X Y : Type 0} (f : X → Y) (test : Y → Bool) (i : ℕ) (xs : List X) (x : X) → i < length xs → x ≡ get_or xs i x
    → test (f x) ≡ false → list_any test (map f (drop i xs)) ≡ list_any test (map f (drop (i + 1) xs))
any-later f test i xs x within is fails =
    any-next f test i xs x within is ∙ ap (λ b. b || list_any test (map f (drop (i + 1) xs))) fails

pub any-none : {X Y : Type 0} (f : X → Y) (test : Y → Bool) (xs : List X) (i : ℕ) → length xs ≤ i → list_any test (map f (drop i xs)) ≡ false
any-none f test xs i past = at_drop_all (λ l. list_any test (map f l)) xs i past

-- one from a place on passes, so one of all does
any-part : {X Y : Type 0} (f : X → Y) (test : Y → Bool) (i : ℕ) (xs : List X) → list_any test (map f (drop i xs)) ≡ true → list_any test (map f xs) ≡ true
any-part f test zero xs passes = passes
any-part f test (suc i) [] passes = passes
any-part f test (suc i) (x ∷ xs) passes = or-right (test (f x)) (any-part f test i xs passes)
  where
    or-right : (a : Bool) {b : Bool} → b ≡ true → (a || b) ≡ true
    or-right true is = refl
    or-right false is = is

pub any-at : {X Y : Type 0} (f : X → Y) (test : Y → Bool) (i : ℕ) (xs : List X) (x : X) → i < length xs → x ≡ get_or xs i x
    → test (f x) ≡ true → list_any test (map f xs) ≡ true
any-at f test i xs x within is passes = any-part f test i xs (any-here f test i xs x within is passes)

-- the next element fails
pub all-here : {X Y : Type 0} (f : X → Y) (test : Y → Bool) (i : ℕ) (xs : List X) (x : X) → i < length xs → x ≡ get_or xs i x
    → test (f x) ≡ false → list_all test (map f (drop i xs)) ≡ false
all-here f test i xs x within is fails =
    at_drop_more (λ l. list_all test (map f l)) xs i x within
    ∙ ap (λ y. test (f y) && list_all test (map f (drop (i + 1) xs))) (sym is)
    ∙ ap (λ b. b && list_all test (map f (drop (i + 1) xs))) fails

-- what holds of each of some names holds of one of them
one-where : (p : List ℕ → Bool) (other name : List ℕ) (names : List (List ℕ)) (same : Bool) → bytes_eq other name ≡ same → (p other && list_all p names) ≡ true
    → (same || is_one_of names name) ≡ true → (list_all p names ≡ true → is_one_of names name ≡ true → p name ≡ true) → p name ≡ true
one-where p other name names true is all one later = ap p (sym (bytes_eq-same other name is)) ∙ and-left (p other) (list_all p names) all
one-where p other name names false is all one later = later (and-right (p other) (list_all p names) all) one

pub holds-one_of : (p : List ℕ → Bool) (names : List (List ℕ)) (name : List ℕ) → list_all p names ≡ true → is_one_of names name ≡ true → p name ≡ true
unfolding is_one_of
holds-one_of p [] name all one = absurd (false≢true one)
holds-one_of p (other ∷ names) name all one = one-where p other name names (bytes_eq other name) refl all one (holds-one_of p names name)
