-- Lists that are kept with the first item last.
use Rattle.std.proofs.Common.{◌≡◌, ℕ, ◌+◌, ◌<◌, ◌≤◌, List, [], ◌∷◌, ◌++◌, Option, Some, None, length, take, drop, get_or, refl, ap, sym, ◌∙◌, arith, append_assoc}
use Rattle.std.specs.Prelude.{reverse, MatchOption, IfNone, IfSome}
use Rattle.std.specs.Option.{option_to_list}
use Rattle.std.proofs.lemmas.List.{drop_at, length-drop, length-reverse, length-take, nil_from_length, reverse-append, take-append-drop, take_at, append-nil}
use Rattle.std.proofs.lemmas.Grind.{take_at_read}

pub reverse-push : {X : Type 0} (xs : List X) (x : X) → reverse (xs ++ x ∷ []) ≡ x ∷ reverse xs
reverse-push xs x = reverse-append xs (x ∷ [])

-- the parts of a reversed list
parts : {X : Type 0} (xs : List X) (m : ℕ) → reverse xs ≡ reverse (drop m xs) ++ reverse (take m xs)
parts xs m = ap reverse (sym (take-append-drop m xs)) ∙ reverse-append (take m xs) (drop m xs)

front-length : {X : Type 0} (xs : List X) (n m : ℕ) → n + m ≡ length xs → length (reverse (drop m xs)) ≡ n
front-length xs n m e = length-reverse (drop m xs) ∙ omega (arith, length-drop m xs)

-- what stands deeper than some, and what doesn't
pub drop-reverse : {X : Type 0} (xs : List X) (n m : ℕ) → n + m ≡ length xs → drop n (reverse xs) ≡ reverse (take m xs)
drop-reverse xs n m e = ap (drop n) (parts xs m) ∙ drop_at (reverse (drop m xs)) (reverse (take m xs)) n (front-length xs n m e)

pub take-reverse : {X : Type 0} (xs : List X) (n m : ℕ) → n + m ≡ length xs → take n (reverse xs) ≡ reverse (drop m xs)
take-reverse xs n m e = ap (take n) (parts xs m) ∙ take_at (reverse (drop m xs)) (reverse (take m xs)) n (front-length xs n m e)

-- the item at a depth
pub at-reverse : {X : Type 0} (xs : List X) (n i : ℕ) (x : X) → n + (i + 1) ≡ length xs → x ≡ get_or xs i x
    → drop n (reverse xs) ≡ x ∷ drop (n + 1) (reverse xs)
at-reverse xs n i x e is =
    let l : i < length xs = omega (arith, e) in
    let one : take (i + 1) xs ≡ take i xs ++ x ∷ [] = (take_at_read xs i x l).1 ∙ ap (λ y. take i xs ++ y ∷ []) (sym is) in
    drop-reverse xs n (i + 1) e ∙ (ap reverse one ∙ (reverse-push (take i xs) x ∙ ap (λ ys. x ∷ ys) (sym (drop-reverse xs (n + 1) i (omega (arith, e))))))

-- ---- what a pop says

pub popped-some : {X : Type 0} (o : Option X) (old new : List X) → old ≡ new ++ option_to_list o → IfSome o (λ x. reverse old ≡ x ∷ reverse new)
popped-some None old new e = tt
popped-some (Some x) old new e = ap reverse e ∙ reverse-push new x

pub popped-none : {X : Type 0} (o : Option X) (old : List X) (n : ℕ) (Q : Type 0) (P : X → Type 0) → n ≡ length old → MatchOption o ((n ≡ 0) × Q) P
    → IfNone o (reverse old ≡ [])
popped-none None old n Q P e h = ap reverse (nil_from_length old (sym e ∙ h.0))
popped-none (Some x) old n Q P e h = tt

pub popped-rest : {X : Type 0} (o : Option X) (old new : List X) (n : ℕ) (Q : Type 0) (P : X → Type 0) → n ≡ length old
    → old ≡ new ++ option_to_list o → MatchOption o ((n ≡ 0) × Q) P → reverse new ≡ drop 1 (reverse old)
popped-rest None old new n Q P l e h =
    let none : old ≡ [] = nil_from_length old (sym l ∙ h.0) in
    let new_none : new ≡ [] = sym (append-nil new) ∙ (sym e ∙ none) in
    ap reverse new_none ∙ sym (ap (λ ys. drop 1 (reverse ys)) none)
popped-rest (Some x) old new n Q P l e h = sym (ap (drop 1) (ap reverse e ∙ reverse-push new x))

-- ---- one in the middle is taken out, or put in

pub removed-reverse : {X : Type 0} (xs new : List X) (n i : ℕ) → n + (i + 1) ≡ length xs → new ≡ take i xs ++ drop (i + 1) xs
    → reverse new ≡ take n (reverse xs) ++ drop (n + 1) (reverse xs)
removed-reverse xs new n i e is =
    let front : take n (reverse xs) ≡ reverse (drop (i + 1) xs) = take-reverse xs n (i + 1) e in
    let back : drop (n + 1) (reverse xs) ≡ reverse (take i xs) = drop-reverse xs (n + 1) i (omega (arith, e)) in
    ap reverse is ∙ (reverse-append (take i xs) (drop (i + 1) xs) ∙ sym (rw (front, back) refl))

pub put-reverse : {X : Type 0} (xs new : List X) (x : X) (n i : ℕ) → n + i ≡ length xs → new ≡ take i xs ++ x ∷ drop i xs
    → reverse new ≡ take n (reverse xs) ++ x ∷ drop n (reverse xs)
put-reverse xs new x n i e is =
    let front : take n (reverse xs) ≡ reverse (drop i xs) = take-reverse xs n i e in
    let back : drop n (reverse xs) ≡ reverse (take i xs) = drop-reverse xs n i e in
    let middle : reverse (x ∷ drop i xs) ≡ reverse (drop i xs) ++ x ∷ [] = reverse-append (x ∷ []) (drop i xs) in
    ap reverse is ∙ (reverse-append (take i xs) (x ∷ drop i xs) ∙ (ap (λ ys. ys ++ reverse (take i xs)) middle
    ∙ (append_assoc (reverse (drop i xs)) (x ∷ []) (reverse (take i xs)) ∙ sym (rw (front, back) refl))))

-- ---- one is taken out, and another put in

pub put_back-front : {Y : Type 0} (d : ℕ) (xs ys : List Y) → d ≤ length xs → take d (take d xs ++ ys) ≡ take d xs
put_back-front d xs ys h = take_at (take d xs) ys d (omega (arith, length-take d xs))

pub put_back-rest : {Y : Type 0} (d : ℕ) (xs ys : List Y) → d ≤ length xs → drop d (take d xs ++ ys) ≡ ys
put_back-rest d xs ys h = drop_at (take d xs) ys d (omega (arith, length-take d xs))

pub put_back : {Y : Type 0} (d : ℕ) (old middle new : List Y) (x : Y) → d < length old → middle ≡ take d old ++ drop (d + 1) old
    → new ≡ take d middle ++ x ∷ drop d middle → new ≡ take d old ++ x ∷ drop (d + 1) old
put_back d old middle new x h m n =
    let front : take d middle ≡ take d old = ap (take d) m ∙ put_back-front d old (drop (d + 1) old) (omega (arith, h)) in
    let rest : drop d middle ≡ drop (d + 1) old = ap (drop d) m ∙ put_back-rest d old (drop (d + 1) old) (omega (arith, h)) in
    n ∙ rw (front, rest) refl
