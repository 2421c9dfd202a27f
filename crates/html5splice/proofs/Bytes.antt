-- Parts of bytes, by places.
use Rattle.std.proofs.Common.{◌≡◌, ◌≤◌, ℕ, ◌+◌, List, [], ◌++◌, length, refl, ap, sym, ◌∙◌, subst, arith}
use Rattle.std.specs.Prelude.{◌-◌, drop, take}
use Rattle.std.proofs.Math.Seq.{drop-drop, take-add}
use Rattle.std.proofs.lemmas.List.{drop-append-le, length-drop, take-append-le}
use Rattle.html5splice.specs.Cuts.{between}

-- what comes after a later place
pub drop-later : (a b : ℕ) (xs : List ℕ) → a ≤ b → drop (b - a) (drop a xs) ≡ drop b xs
drop-later a b xs ab = drop-drop (b - a) a xs ∙ ap (λ n. drop n xs) (omega (arith, ab))

pub between-join : (a b c : ℕ) (xs : List ℕ) → a ≤ b → b ≤ c → between a b xs ++ between b c xs ≡ between a c xs
between-join a b c xs ab bc =
    ap (λ l. between a b xs ++ take (c - b) l) (sym (drop-later a b xs ab))
    ∙ sym (take-add (b - a) (c - b) (drop a xs))
    ∙ ap (λ n. take n (drop a xs)) (omega (arith, ab, bc))

-- bytes that come later change nothing
pub between-append : (a b : ℕ) (xs ys : List ℕ) → a ≤ b → b ≤ length xs → between a b (xs ++ ys) ≡ between a b xs
between-append a b xs ys ab within =
    ap (take (b - a)) (drop-append-le a xs ys (omega (arith, ab, within)))
    ∙ take-append-le (b - a) (drop a xs) ys (let len = length-drop a xs in omega (arith, ab, within, len))

pub between-none : (a : ℕ) (xs : List ℕ) → between a a xs ≡ []
between-none a xs = ap (λ n. take n (drop a xs)) {x = a - a} {y = 0} (omega arith)
