-- One more turn of a loop: over a table, a text, attributes that are changed in place.
use Rattle.std.proofs.Common.{◌≡◌, ℕ, zero, suc, ◌+◌, ◌<◌, ◌≤◌, true, false, List, [], ◌∷◌, ◌++◌, length, get_or, take, drop, map, refl, ap, sym, ◌∙◌, arith, add-one}
use Rattle.std.specs.Prelude.{if◌then◌else◌}
use Rattle.std.specs.Char.{to_ascii_lowercase}
use Rattle.std.specs.Str.{bytes_eq}
use Rattle.std.specs.List.{drop-map, take-map}
use Rattle.std.proofs.Math.ListN.{get_or-map, set}
use Rattle.std.proofs.lemmas.List.{at_drop_all, at_drop_more, length-map, map-set}
use Rattle.tree_construction.specs.Adjusting.{adjusted_name, cased}
use Rattle.markup5ever.specs.Names.{plain_name}
use Rattle.tree_construction.specs.Doctypes.{begins_with}
use Rattle.tree_names.specs.ForeignNames.{foreign_of}
use Rattle.tree_names.specs.declared.adjusting.Foreign.{Foreign}

-- nothing is left of a text, but something of the beginning
pub begins-past : (beginning left : List ℕ) (i : ℕ) → i < length beginning → length left ≡ 0 → begins_with (drop i beginning) (map to_ascii_lowercase left) ≡ false
unfolding begins_with
begins-past beginning [] i within none = at_drop_more (λ l. begins_with l []) beginning i 0 within
begins-past beginning (c ∷ left) i within none = absurd (omega (arith, none))

-- the name is that of the next row
pub foreign-here : (rows : List Foreign) (i : ℕ) (name : List ℕ) (cases : List (List ℕ)) (d : Foreign) → i < length rows
    → bytes_eq (get_or rows i d).written.now name ≡ true → adjusted_name (map foreign_of (drop i rows)) cases name ≡ (foreign_of (get_or rows i d)).name
unfolding adjusted_name
foreign-here rows i name cases d within same =
    at_drop_more (λ l. adjusted_name (map foreign_of l) cases name) rows i d within
    ∙ ap (λ b. if b then (foreign_of (get_or rows i d)).name else adjusted_name (map foreign_of (drop (i + 1) rows)) cases name) same

-- no row is left
pub foreign-none : (rows : List Foreign) (i : ℕ) (name : List ℕ) (cases : List (List ℕ)) → length rows ≤ i
    → adjusted_name (map foreign_of (drop i rows)) cases name ≡ plain_name (cased cases name)
unfolding adjusted_name
foreign-none rows i name cases past = at_drop_all (λ l. adjusted_name (map foreign_of l) cases name) rows i past

-- the next item is changed by a function
change-next : {Y : Type 0} (f : Y → Y) (olds : List Y) (i : ℕ) (d : Y) → i < length olds
    → set (map f (take i olds) ++ drop i olds) i (f (get_or (map f (take i olds) ++ drop i olds) i d)) ≡ map f (take (suc i) olds) ++ drop (suc i) olds
change-next f [] i d within = absurd (omega arith)
change-next f (x ∷ olds) zero d within = refl
change-next f (x ∷ olds) (suc i) d within = ap (λ l. f x ∷ l) (change-next f olds i d (omega arith))

-- the next item is one that looks as the function makes it
pub adjusts-next : {X Y : Type 0} (view : X → Y) (f : Y → Y) (now old : List X) (i : ℕ) (y d : X)
    → map view now ≡ map f (map view (take i old)) ++ map view (drop i old) → i < length old → view y ≡ f (view (get_or now i d))
    → map view (set now i y) ≡ map f (map view (take (i + 1) old)) ++ map view (drop (i + 1) old)
adjusts-next view f now old i y d before within changed =
    map-set view now i y
    ∙ ap (λ v. set (map view now) i v) (changed ∙ ap f (sym (get_or-map view now i d)))
    ∙ ap (λ l. set l i (f (get_or l i (view d)))) (before ∙ sym (halves i))
    ∙ change-next f (map view old) i (view d) (omega (arith, within, length-map old view))
    ∙ halves (suc i)
    ∙ ap (λ n. map f (map view (take n old)) ++ map view (drop n old)) (sym (add-one i))
  where
    halves : (n : ℕ) → map f (take n (map view old)) ++ drop n (map view old) ≡ map f (map view (take n old)) ++ map view (drop n old)
    halves n =
        ap (λ l. map f l ++ drop n (map view old)) (take-map view n old) ∙ ap (λ l. map f (map view (take n old)) ++ l) (drop-map view n old)
