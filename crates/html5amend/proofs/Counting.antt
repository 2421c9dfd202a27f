-- The elements that wait, one after another.
use Rattle.std.proofs.Common.{◌≡◌, ◌≢◌, ℕ, Bool, true, false, zero, suc, ◌+◌, ◌<◌, ◌≤◌, List, [], ◌∷◌, ◌++◌, length, get_or, take, drop, set, map, Some, None, refl, ap, sym, subst, ◌∙◌, arith, deque_len}
use Rattle.std.specs.Prelude.{◌↔◌, IsSome, OnSome, Option, if◌then◌else◌}
use Rattle.std.specs.declared.collections.VecDeque.{VecDeque}
use Rattle.std.specs.Str.{bytes_eq}
use Rattle.std.proofs.lemmas.Bool.{ne_eqb}
use Rattle.std.proofs.lemmas.List.{at_drop_more, at_drop_all}
use Rattle.html5amend.specs.Open.{OpenOf, counted_at, found_from}
use Rattle.html5amend.specs.Views.{open_by}
use Rattle.html5amend.specs.declared.open.Open.{Open}

pub found-next : {Z : Type 0} (place : ℕ) (name : List ℕ) (items : List (Open Z)) (d : Open Z) → place < length items
    → found_from place name (map open_by (drop place items))
    ≡ (if bytes_eq (open_by (get_or items place d)).name name then Some (record { place = place; element = open_by (get_or items place d) })
    else if (open_by (get_or items place d)).drops then None
    else found_from (suc place) name (map open_by (drop (place + 1) items)))
unfolding found_from
found-next place name items d within = at_drop_more (λ l. found_from place name (map open_by l)) items place d within

pub found-none : {Z : Type 0} (place : ℕ) (name : List ℕ) (items : List (Open Z)) → length items ≤ place → found_from place name (map open_by (drop place items)) ≡ None
unfolding found_from
found-none place name items all = at_drop_all (λ l. found_from place name (map open_by l)) items place all

pub counted-removed : {Z : Type 0} (place : ℕ) (items : List (Open Z)) → map open_by (take place items ++ drop (suc place) items) ≡ counted_at place 0 (map open_by items)
unfolding counted_at
counted-removed zero [] = refl
counted-removed (suc place) [] = refl
counted-removed zero (o ∷ items) = refl
counted-removed (suc place) (o ∷ items) = ap (λ l. open_by o ∷ l) (counted-removed place items)

-- one that has another depth
abbrev pub with_depth : ℕ → OpenOf → OpenOf
with_depth depth o = record o { depth = depth }

pub counted-set : {Z : Type 0} (place depth : ℕ) (items : List (Open Z)) (x d : Open Z) → depth ≢ 0 → place < length items
    → open_by x ≡ with_depth depth (open_by (get_or items place d)) → map open_by (set items place x) ≡ counted_at place depth (map open_by items)
unfolding counted_at
counted-set zero depth [] x d some within is = elim within [ ]
counted-set (suc place) depth [] x d some within is = elim within [ ]
counted-set zero depth (o ∷ items) x d some within is =
    ap (λ y. y ∷ map open_by items) is ∙ sym (ap (λ b. if b then map open_by items else (with_depth depth (open_by o) ∷ map open_by items)) (ne_eqb depth 0 some))
counted-set (suc place) depth (o ∷ items) x d some within is = ap (λ l. open_by o ∷ l) (counted-set place depth items x d some (omega (arith, within)) is)

-- beyond the last one nothing is counted
pub counted-beyond : (place depth : ℕ) (waiting : List OpenOf) → length waiting ≤ place → counted_at place depth waiting ≡ waiting
unfolding counted_at
counted-beyond zero depth [] beyond = refl
counted-beyond (suc place) depth [] beyond = refl
counted-beyond zero depth (o ∷ waiting) beyond = elim beyond [ ]
counted-beyond (suc place) depth (o ∷ waiting) beyond = ap (λ l. o ∷ l) (counted-beyond place depth waiting (omega (arith, beyond)))

-- what holds where a test fails
abbrev at_false : Type 0 → Bool → Type 0
at_false P true = Unit {0}
at_false P false = P

-- one that is removed from a queue, where it is there
pub counted-closed : {Z : Type 0} (place : ℕ) (q now : VecDeque (Open Z) Z) (r : Option (Open Z)) → place < length q.items
    → OnSome r (now.items ≡ take place q.items ++ drop (suc place) q.items) → (IsSome r ↔ (place < deque_len q))
    → map open_by now.items ≡ counted_at place 0 (map open_by q.items)
counted-closed place q now (Some x) within items variant = ap (map open_by) items ∙ counted-removed place q.items
counted-closed place q now None within items variant =
    subst (at_false (map open_by now.items ≡ counted_at place 0 (map open_by q.items))) (sym (variant.1 (subst (λ n. place < n) (sym q.ok.0) within))) tt
