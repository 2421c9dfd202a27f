-- Items of code as items of the definition: what is at a place, taken out, or put in.
use Rattle.std.proofs.Common.{◌≡◌, ℕ, ◌+◌, List, ◌∷◌, ◌++◌, take, drop, refl, ap, sym, ◌∙◌}
use Rattle.std.proofs.lemmas.List.{drop-map, map-append, take-map}
use Rattle.std.specs.Prelude.{map}

pub at-mapped : {X Y : Type 0} (f : X → Y) (xs : List X) (d : ℕ) (x : X) → drop d xs ≡ x ∷ drop (d + 1) xs
    → drop d (map f xs) ≡ f x ∷ drop (d + 1) (map f xs)
at-mapped f xs d x e = drop-map f d xs ∙ (ap (map f) e ∙ ap (λ ys. f x ∷ ys) (sym (drop-map f (d + 1) xs)))

pub removed-mapped : {X Y : Type 0} (f : X → Y) (xs new : List X) (d : ℕ) → new ≡ take d xs ++ drop (d + 1) xs
    → map f new ≡ take d (map f xs) ++ drop (d + 1) (map f xs)
removed-mapped f xs new d e =
    ap (map f) e ∙ (map-append f (take d xs) (drop (d + 1) xs) ∙ sym (rw (take-map f d xs, drop-map f (d + 1) xs) refl))

pub put-mapped : {X Y : Type 0} (f : X → Y) (xs new : List X) (x : X) (d k : ℕ) → new ≡ take d xs ++ x ∷ drop k xs
    → map f new ≡ take d (map f xs) ++ f x ∷ drop k (map f xs)
put-mapped f xs new x d k e =
    ap (map f) e ∙ (map-append f (take d xs) (x ∷ drop k xs) ∙ sym (rw (take-map f d xs, drop-map f k xs) refl))
