-- Open elements that are closed and opened, in lists with the innermost last.
use Rattle.std.proofs.Common.{◌≡◌, ℕ, zero, suc, ◌+◌, ◌≤◌, ◌<◌, List, [], ◌∷◌, ◌++◌, length, take, drop, ap, sym, ◌∙◌, arith, add-one, Some, None, Option}
use Rattle.std.specs.Prelude.{map, slice_get, option_map}
use Rattle.std.proofs.lemmas.List.{drop_all, length-drop, map-append, take_all}
use Rattle.html5tree.specs.ElementNames.{name_of}
use Rattle.html5tree.specs.Normal.{opened}
use Rattle.html5tree.specs.Searches.{names_open}
use Rattle.html5tree.specs.declared.names.ElementName.{ElementName}
use Rattle.html5tree.proofs.OpenNames.{open-append}
use Rattle.html5tree.proofs.RightPlans.{Stack, drop-suc}

pub open-push : (xs : List ElementName) (x : ElementName) → names_open (xs ++ x ∷ []) ≡ name_of x ∷ names_open xs
open-push xs x = open-append xs (x ∷ [])

-- ---- closing

pub record IsClosing (s : Stack) (names closed : List ElementName) (at : ℕ) : Type 0 where
  pub left : names_open names ≡ drop at s
  pub gone : map name_of closed ≡ take at s

pub closing-none : (s : Stack) (names closed : List ElementName) → s ≡ names_open names → closed ≡ [] → IsClosing s names closed 0
closing-none s names closed same none = record { left = sym same; gone = ap (map name_of) none }

take-suc : (n : ℕ) (s t : Stack) (name : List ℕ) → drop n s ≡ name ∷ t → take (suc n) s ≡ take n s ++ name ∷ []
take-suc zero [] t name e = cc
take-suc zero (x ∷ s) t name e = let f : x ≡ name = cc in ap (λ y. y ∷ []) f
take-suc (suc n) [] t name e = cc
take-suc (suc n) (x ∷ s) t name e = ap (λ ys. x ∷ ys) (take-suc n s t name e)

pub closing-more : (s : Stack) (old new closed later : List ElementName) (x : ElementName) (at : ℕ) → IsClosing s old closed at → old ≡ new ++ x ∷ []
    → later ≡ closed ++ x ∷ [] → IsClosing s new later (at + 1)
closing-more s old new closed later x at c popped pushed =
    let e : drop at s ≡ name_of x ∷ names_open new = sym c.left ∙ (ap names_open popped ∙ open-push new x) in
    record {
      left = rw (add-one at) (sym (drop-suc at s (names_open new) (name_of x) e));
      gone = rw (add-one at) (ap (map name_of) pushed ∙ (map-append name_of closed (x ∷ []) ∙ (ap (λ ys. ys ++ name_of x ∷ []) c.gone ∙ sym (take-suc at s (names_open new) (name_of x) e))));
    }

pub closing-end : (s : Stack) (old closed : List ElementName) (at count : ℕ) → IsClosing s old closed at → old ≡ [] → at ≤ count → IsClosing s old closed count
closing-end s old closed at count c none h =
    let e : drop at s ≡ [] = sym c.left ∙ ap names_open none in
    let l : length s ≤ at = omega (arith, sym (length-drop at s) ∙ ap length e) in
    let m : length s ≤ count = omega (arith, l, h) in
    record {
      left = ap names_open none ∙ sym (drop_all count s m);
      gone = c.gone ∙ (take_all at s l ∙ sym (take_all count s m));
    }

-- ---- opening

opened-suc : (names : List (List ℕ)) (at : ℕ) (name : List ℕ) (s : Stack) → slice_get names at ≡ Some name
    → opened (take (suc at) names) s ≡ name ∷ opened (take at names) s
unfolding opened
opened-suc [] at name s h = cc
opened-suc (x ∷ names) zero name s h = cc
opened-suc (x ∷ names) (suc at) name s h = opened-suc names at name (x ∷ s) h

pub record IsOpening (s : Stack) (parents : List (List ℕ)) (names : List ElementName) (at : ℕ) : Type 0 where
  pub names_are : names_open names ≡ opened (take at parents) s

pub opening-none : (s : Stack) (parents : List (List ℕ)) (names : List ElementName) → s ≡ names_open names → IsOpening s parents names 0
unfolding opened
opening-none s parents names same = record { names_are = sym same }

pub opening-more : (s : Stack) (parents : List (List ℕ)) (old new : List ElementName) (x : ElementName) (got : Option ElementName) (at : ℕ) → IsOpening s parents old at
    → new ≡ old ++ x ∷ [] → got ≡ Some x → option_map name_of got ≡ slice_get parents at → IsOpening s parents new (at + 1)
opening-more s parents old new x got at o pushed is gives = record {
  names_are =
      ap names_open pushed ∙ (open-push old x ∙ (ap (λ ys. name_of x ∷ ys) o.names_are
      ∙ (sym (opened-suc parents at (name_of x) s (sym gives ∙ ap (option_map name_of) is)) ∙ ap (λ n. opened (take n parents) s) (sym (add-one at)))));
}

pub opening-all : (s : Stack) (parents : List (List ℕ)) (names : List ElementName) (at : ℕ) → IsOpening s parents names at → at ≡ length parents
    → names_open names ≡ opened parents s
opening-all s parents names at o all = o.names_are ∙ ap (λ ys. opened ys s) (ap (λ n. take n parents) all ∙ take_all (length parents) parents (omega arith))

pub got-one : (names : List (List ℕ)) (at : ℕ) → None ≡ slice_get names at → at < length names → ⊥
got-one [] at e h = omega (arith, h)
got-one (x ∷ names) zero e h = cc
got-one (x ∷ names) (suc at) e h = got-one names at e (omega arith)
