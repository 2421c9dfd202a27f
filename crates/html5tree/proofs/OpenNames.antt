-- Names of open elements in a list, the innermost last: what a search from its end finds.
use Rattle.std.proofs.Common.{◌≡◌, ℕ, suc, ◌+◌, ◌-◌, ◌≤◌, ◌<◌, Bool, true, false, List, [], ◌∷◌, ◌++◌, length, take, drop, get_or, refl, ap, sym, ◌∙◌, arith}
use Rattle.std.specs.Prelude.{map, reverse, ◌&&◌, if◌then◌else◌}
use Rattle.std.proofs.lemmas.Bool.{false≢true, and_right}
use Rattle.std.proofs.lemmas.List.{drop_all, drop_at, length-drop, length-map, length-reverse, map-append, map_more, nil_from_length, reverse-append, take-append-drop, take_all, take_at}
use Rattle.html5tree.specs.ElementNames.{name_of}
use Rattle.html5tree.specs.Fitting.{can_open, fits}
use Rattle.html5tree.specs.Items.Item.{EndTag}
use Rattle.html5tree.specs.Names.{kind_of, named, no_kind}
use Rattle.html5tree.specs.Normal.{count_inside, run_of, through}
use Rattle.html5tree.specs.Scopes.{kind_on_top, near}
use Rattle.html5tree.specs.Searches.{names_open}
use Rattle.html5tree.specs.declared.kinds.Kind.{Kind}
use Rattle.html5tree.specs.declared.kinds.Kind.TheVariants.{Unknown}
use Rattle.html5tree.specs.declared.names.ElementName.{ElementName}

-- one more element is the innermost
pub open-more : (xs : List ElementName) (i : ℕ) (d : ElementName) → i < length xs → names_open (take (i + 1) xs) ≡ name_of (get_or xs i d) ∷ names_open (take i xs)
open-more xs i d h =
    ap reverse (map_more name_of xs i d h) ∙ reverse-append (map name_of (take i xs)) (name_of (get_or xs i d) ∷ [])

-- ---- a search, where those from a place on are passed

pub record IsPassed (test : List ℕ → Bool) (ends : Kind → Bool) (xs : List ElementName) (at : ℕ) : Type 0 where
  pub below : at ≤ length xs
  pub nears : near test ends (names_open xs) ≡ near test ends (names_open (take at xs))
  pub counts : count_inside test (names_open xs) + at ≡ length xs + count_inside test (names_open (take at xs))

pub passed-none : (test : List ℕ → Bool) (ends : Kind → Bool) (xs : List ElementName) → IsPassed test ends xs (length xs)
passed-none test ends xs =
    let e : take (length xs) xs ≡ xs = take_all (length xs) xs (omega arith) in
    record {
      below = omega arith;
      nears = rw e refl;
      counts = rw e (omega arith);
    }

one-more : (xs : List ElementName) (at less : ℕ) (x : ElementName) → less + 1 ≡ at → x ≡ get_or xs less x
    → at ≤ length xs → names_open (take at xs) ≡ name_of x ∷ names_open (take less xs)
one-more xs at less x e is h =
    let l : less < length xs = omega arith in
    ap (λ n. names_open (take n xs)) (sym e) ∙ (open-more xs less x l ∙ ap (λ y. name_of y ∷ names_open (take less xs)) (sym is))

pub passed-more : (test : List ℕ → Bool) (ends : Kind → Bool) (xs : List ElementName) (at less : ℕ) (x : ElementName) → less + 1 ≡ at → x ≡ get_or xs less x
    → IsPassed test ends xs at → test (name_of x) ≡ false → ends (kind_of (name_of x)) ≡ false → IsPassed test ends xs less
unfolding near count_inside
passed-more test ends xs at less x e is p other free =
    let one = one-more xs at less x e is p.below in
    let nears : near test ends (names_open (take at xs)) ≡ near test ends (names_open (take less xs)) = rw one (rw (other, free) refl) in
    let counts : count_inside test (names_open (take at xs)) ≡ suc (count_inside test (names_open (take less xs))) = rw one (rw other refl) in
    record {
      below = omega (arith, p.below);
      nears = p.nears ∙ nears;
      counts = omega (arith, p.counts, counts);
    }

pub passed-found : (test : List ℕ → Bool) (ends : Kind → Bool) (xs : List ElementName) (at less : ℕ) (x : ElementName) → less + 1 ≡ at → x ≡ get_or xs less x
    → IsPassed test ends xs at → test (name_of x) ≡ true → length xs - less ≡ through test ends (names_open xs)
unfolding near count_inside
passed-found test ends xs at less x e is p passes =
    let one = one-more xs at less x e is p.below in
    let nears : near test ends (names_open (take at xs)) ≡ true = rw one (rw passes refl) in
    let counts : count_inside test (names_open (take at xs)) ≡ 0 = rw one (rw passes refl) in
    let b = p.below in
    let c = p.counts in
    rw (p.nears ∙ nears) (omega (arith, b, c, counts))

pub passed-bound : (test : List ℕ → Bool) (ends : Kind → Bool) (xs : List ElementName) (at less : ℕ) (x : ElementName) → less + 1 ≡ at → x ≡ get_or xs less x
    → IsPassed test ends xs at → test (name_of x) ≡ false → ends (kind_of (name_of x)) ≡ true → 0 ≡ through test ends (names_open xs)
unfolding near
passed-bound test ends xs at less x e is p other stops =
    let one = one-more xs at less x e is p.below in
    let nears : near test ends (names_open (take at xs)) ≡ false = rw one (rw (other, stops) refl) in
    rw (p.nears ∙ nears) refl

pub passed-all : (test : List ℕ → Bool) (ends : Kind → Bool) (xs : List ElementName) → IsPassed test ends xs 0 → 0 ≡ through test ends (names_open xs)
unfolding near
passed-all test ends xs p = rw p.nears refl

-- if none passes, all are inside it
pub count-none : (test : List ℕ → Bool) (s : List (List ℕ)) → near test no_kind s ≡ false → count_inside test s ≡ length s
unfolding near count_inside
count-none test [] h = refl
count-none test (name ∷ s) h = at (test name) h (count-none test s)
  where
    at : (b : Bool) → (if b then true else near test no_kind s) ≡ false → (near test no_kind s ≡ false → count_inside test s ≡ length s)
        → (if b then 0 else suc (count_inside test s)) ≡ suc (length s)
    at true h again = absurd (false≢true (sym h))
    at false h again = ap suc (again h)

pub length-open : (xs : List ElementName) → length (names_open xs) ≡ length xs
length-open xs = length-reverse (map name_of xs) ∙ length-map xs name_of

pub inside-none : (test : List ℕ → Bool) (xs : List ElementName) → 0 ≡ through test no_kind (names_open xs) → length xs ≡ count_inside test (names_open xs)
inside-none test xs h = at (near test no_kind (names_open xs)) refl h
  where
    at : (b : Bool) → near test no_kind (names_open xs) ≡ b → 0 ≡ (if b then suc (count_inside test (names_open xs)) else 0)
        → length xs ≡ count_inside test (names_open xs)
    at true e h = absurd (omega (arith, h))
    at false e h = sym (count-none test (names_open xs) e ∙ length-open xs)

pub inside-some : (test : List ℕ → Bool) (xs : List ElementName) (n : ℕ) → n ≡ through test no_kind (names_open xs) → 0 < n → n - 1 ≡ count_inside test (names_open xs)
inside-some test xs n h p = at (near test no_kind (names_open xs)) h
  where
    at : (b : Bool) → n ≡ (if b then suc (count_inside test (names_open xs)) else 0) → n - 1 ≡ count_inside test (names_open xs)
    at true h = omega (arith, h)
    at false h = absurd (omega (arith, h, p))

-- ---- a run of those that pass

pub record IsRun (test : Kind → Bool) (xs : List ElementName) (at : ℕ) : Type 0 where
  pub below : at ≤ length xs
  pub counts : run_of test (names_open xs) + at ≡ length xs + run_of test (names_open (take at xs))

pub run-none : (test : Kind → Bool) (xs : List ElementName) → IsRun test xs (length xs)
run-none test xs =
    let e : take (length xs) xs ≡ xs = take_all (length xs) xs (omega arith) in
    record { below = omega arith; counts = rw e (omega arith) }

pub run-more : (test : Kind → Bool) (xs : List ElementName) (at less : ℕ) (x : ElementName) → less + 1 ≡ at → x ≡ get_or xs less x
    → IsRun test xs at → test (kind_of (name_of x)) ≡ true → IsRun test xs less
unfolding run_of
run-more test xs at less x e is p passes =
    let one = one-more xs at less x e is p.below in
    let counts : run_of test (names_open (take at xs)) ≡ suc (run_of test (names_open (take less xs))) = rw one (rw passes refl) in
    record { below = omega (arith, p.below); counts = omega (arith, p.counts, counts) }

pub run-stops : (test : Kind → Bool) (xs : List ElementName) (at less : ℕ) (x : ElementName) → less + 1 ≡ at → x ≡ get_or xs less x
    → IsRun test xs at → test (kind_of (name_of x)) ≡ false → length xs - at ≡ run_of test (names_open xs)
unfolding run_of
run-stops test xs at less x e is p other =
    let one = one-more xs at less x e is p.below in
    let counts : run_of test (names_open (take at xs)) ≡ 0 = rw one (rw other refl) in
    omega (arith, p.below, p.counts, counts)

pub run-all : (test : Kind → Bool) (xs : List ElementName) → IsRun test xs 0 → length xs ≡ run_of test (names_open xs)
unfolding run_of
run-all test xs p = let c = p.counts in omega (arith, c)

-- ---- when some are closed

pub open-append : (xs ys : List ElementName) → names_open (xs ++ ys) ≡ names_open ys ++ names_open xs
open-append xs ys = ap reverse (map-append name_of xs ys) ∙ reverse-append (map name_of xs) (map name_of ys)

open-parts : (xs : List ElementName) (keeps : ℕ) → names_open xs ≡ names_open (drop keeps xs) ++ names_open (take keeps xs)
open-parts xs keeps = ap names_open (sym (take-append-drop keeps xs)) ∙ open-append (take keeps xs) (drop keeps xs)

pub drop-open : (xs : List ElementName) (closes keeps : ℕ) → keeps + closes ≡ length xs → drop closes (names_open xs) ≡ names_open (take keeps xs)
drop-open xs closes keeps e =
    let l : length (names_open (drop keeps xs)) ≡ closes = length-open (drop keeps xs) ∙ (length-drop keeps xs ∙ omega (arith, e)) in
    ap (drop closes) (open-parts xs keeps) ∙ drop_at (names_open (drop keeps xs)) (names_open (take keeps xs)) closes l

pub take-open : (xs : List ElementName) (closes keeps : ℕ) → keeps + closes ≡ length xs → take closes (names_open xs) ≡ names_open (drop keeps xs)
take-open xs closes keeps e =
    let l : length (names_open (drop keeps xs)) ≡ closes = length-open (drop keeps xs) ∙ (length-drop keeps xs ∙ omega (arith, e)) in
    ap (take closes) (open-parts xs keeps) ∙ take_at (names_open (drop keeps xs)) (names_open (take keeps xs)) closes l

pub top-under : (xs : List ElementName) (closes less : ℕ) (x : ElementName) → less + 1 + closes ≡ length xs → x ≡ get_or xs less x
    → kind_of (name_of x) ≡ kind_on_top (drop closes (names_open xs))
top-under xs closes less x e is =
    sym (ap kind_on_top (drop-open xs closes (less + 1) e ∙ one-more xs (less + 1) less x refl is (omega (arith, e))))

pub none-under : (xs : List ElementName) (closes : ℕ) → length xs ≤ closes → Unknown ≡ kind_on_top (drop closes (names_open xs))
none-under xs closes h = sym (ap kind_on_top (drop_all closes (names_open xs) (omega (arith, h, length-open xs))))

count-within : (test : List ℕ → Bool) (s : List (List ℕ)) → count_inside test s ≤ length s
unfolding count_inside
count-within test [] = omega arith
count-within test (name ∷ s) = at (test name) (count-within test s)
  where
    at : (b : Bool) → count_inside test s ≤ length s → (if b then 0 else suc (count_inside test s)) ≤ suc (length s)
    at true h = omega arith
    at false h = omega (arith, h)

pub inside-within : (test : List ℕ → Bool) (xs : List ElementName) (n : ℕ) → n ≡ through test no_kind (names_open xs) → n - 1 ≤ length xs
inside-within test xs n h = at (near test no_kind (names_open xs)) h
  where
    at : (b : Bool) → n ≡ (if b then suc (count_inside test (names_open xs)) else 0) → n - 1 ≤ length xs
    at true h = omega (arith, h, count-within test (names_open xs), length-open xs)
    at false h = omega (arith, h)

pub end-fits-top : (xs : List ElementName) (less : ℕ) (x name : ElementName) → less + 1 ≡ length xs → x ≡ get_or xs less x
    → (can_open (kind_of (name_of name)) && named (name_of name) (name_of x)) ≡ fits (names_open xs) (EndTag (name_of name))
unfolding fits
end-fits-top xs less x name e is =
    let one : names_open xs ≡ name_of x ∷ names_open (take less xs) =
    ap names_open (sym (take_all (length xs) xs (omega arith))) ∙ one-more xs (length xs) less x e is (omega arith) in
    rw one refl

pub end-fits-none : (xs : List ElementName) (name : ElementName) → length xs ≡ 0 → false ≡ fits (names_open xs) (EndTag (name_of name))
unfolding fits
end-fits-none xs name e = rw (nil_from_length xs e) (sym (and_right (can_open (kind_of (name_of name))) false refl))
