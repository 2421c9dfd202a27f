-- Rows of nodes that are kept in order: one that is changed or read by its number, or added.
use Rattle.std.proofs.Common.{◌≡◌, ℕ, zero, suc, ◌+◌, ◌<◌, ◌≤◌, true, false, List, [], ◌∷◌, ◌++◌, Some, length, get_or, take, drop, map, refl, ap, sym, ◌∙◌, arith, append_assoc}
use Rattle.std.specs.Prelude.{reverse, ◌==◌, if◌then◌else◌}
use Rattle.std.proofs.Math.ListN.{get_or-map, set}
use Rattle.std.proofs.lemmas.Bool.Decides.{nat_tests}
use Rattle.std.proofs.lemmas.List.{append-nil, drop_all, length-append, length-map, length-reverse, length-take-le, length_push, map-append, map-set, reverse-append, set-get_or, set_split, take_all}
use Rattle.tree_construction.specs.Document.{Row, What, changed, is_child_of, moved, new_row, row_of}
use Rattle.tree_construction.specs.Document.What.{TemplateContents}
use Rattle.tree_arena.specs.declared.row.Node.{Node}
use Rattle.tree_arena.specs.Rows.{IsAbsent, IsAt, IsMade, number_at, numbered, plain_row, rows_of, with_number}

test-false : (a b : ℕ) → (a ≡ b → ⊥) → (a == b) ≡ false
test-false a b h = grind (arith, nat_tests)

test-true : (a : ℕ) → (a == a) ≡ true
test-true a = grind (arith, nat_tests)

number-same : (i j : ℕ) → number_at i ≡ number_at j → i ≡ j
number-same zero zero e = refl
number-same zero (suc j) e = absurd (omega (arith, e))
number-same (suc i) zero e = absurd (omega (arith, e))
number-same (suc i) (suc j) e = omega (arith, e)

-- ---- rows, the last first

-- those before it are later nodes, which have other numbers
later-other : (xs : List Row) (x : Row) (ys : List Row) → (number_at (length (xs ++ x ∷ ys)) == number_at (length ys)) ≡ false
later-other xs x ys =
    test-false _ _ (λ e. let same = number-same (length (xs ++ x ∷ ys)) (length ys) e in absurd (omega (arith, same, length-append xs (x ∷ ys))))

same-length : (xs : List Row) (x y : Row) (ys : List Row) → length (xs ++ x ∷ ys) ≡ length (xs ++ y ∷ ys)
same-length xs x y ys = length-append xs (x ∷ ys) ∙ sym (length-append xs (y ∷ ys))

changed-there : (f : Row → Row) (commutes : (n : ℕ) (r : Row) → f (with_number n r) ≡ with_number n (f r)) (xs : List Row) (x : Row) (ys : List Row)
    → changed (number_at (length ys)) f (numbered (xs ++ x ∷ ys)) ≡ numbered (xs ++ f x ∷ ys)
unfolding changed numbered
changed-there f commutes [] x ys = rw (test-true (number_at (length ys))) (ap (λ r. r ∷ numbered ys) (commutes (number_at (length ys)) x))
changed-there f commutes (a ∷ xs) x ys =
    let n = number_at (length ys) in
    rw (later-other xs x ys)
    (ap (λ k. with_number (number_at k) a ∷ changed n f (numbered (xs ++ x ∷ ys))) (same-length xs x (f x) ys)
    ∙ ap (λ l. with_number (number_at (length (xs ++ f x ∷ ys))) a ∷ l) (changed-there f commutes xs x ys))

row-there : (xs : List Row) (x : Row) (ys : List Row) → row_of (number_at (length ys)) (numbered (xs ++ x ∷ ys)) ≡ with_number (number_at (length ys)) x
unfolding row_of numbered
row-there [] x ys = rw (test-true (number_at (length ys))) refl
row-there (a ∷ xs) x ys = rw (later-other xs x ys) (row-there xs x ys)

changed-nowhere : (n : ℕ) (f : Row → Row) (rows : List Row) → ((k : ℕ) → k < length rows → number_at k ≡ n → ⊥) → changed n f (numbered rows) ≡ numbered rows
unfolding changed numbered
changed-nowhere n f [] h = refl
changed-nowhere n f (r ∷ rows) h =
    rw (test-false (number_at (length rows)) n (λ e. h (length rows) (omega arith) e))
    (ap (λ l. with_number (number_at (length rows)) r ∷ l) (changed-nowhere n f rows (λ k w e. h k (omega (arith, w)) e)))

row-nowhere : (n : ℕ) (rows : List Row) → ((k : ℕ) → k < length rows → number_at k ≡ n → ⊥) → row_of n (numbered rows) ≡ new_row n TemplateContents
unfolding row_of numbered
row-nowhere n [] h = refl
row-nowhere n (r ∷ rows) h =
    rw (test-false (number_at (length rows)) n (λ e. h (length rows) (omega arith) e)) (row-nowhere n rows (λ k w e. h k (omega (arith, w)) e))

-- ---- nodes in order

reverse-set : {X : Type 0} (xs : List X) (i : ℕ) (x : X) → i < length xs → reverse (set xs i x) ≡ reverse (drop (suc i) xs) ++ x ∷ reverse (take i xs)
reverse-set xs i x h =
    ap reverse (set_split xs i x h) ∙ (reverse-append (take i xs) (x ∷ drop (suc i) xs)
    ∙ (ap (λ ys. ys ++ reverse (take i xs)) (reverse-append (x ∷ []) (drop (suc i) xs)) ∙ append_assoc (reverse (drop (suc i) xs)) (x ∷ []) (reverse (take i xs))))

-- a node among others, as rows
record IsAmong {Z : Type 0} (xs : List (Node Z)) (i : ℕ) (node : Node Z) (later earlier : List Row) : Type 0 where
  rows : reverse (map plain_row xs) ≡ later ++ plain_row node ∷ earlier
  count : length earlier ≡ i
  changes : (new : Node Z) → reverse (map plain_row (set xs i new)) ≡ later ++ plain_row new ∷ earlier

is-among : {Z : Type 0} (xs : List (Node Z)) (i : ℕ) (d : Node Z) → i < length xs
    → IsAmong xs i (get_or xs i d) (reverse (drop (suc i) (map plain_row xs))) (reverse (take i (map plain_row xs)))
is-among xs i d h =
    let ys = map plain_row xs in
    let within : i < length ys = omega (arith, h, length-map xs plain_row) in
    let same : ys ≡ set ys i (plain_row (get_or xs i d)) = sym (set-get_or ys i (plain_row d)) ∙ ap (λ r. set ys i r) (get_or-map plain_row xs i d) in
    record {
      rows = ap reverse same ∙ reverse-set ys i (plain_row (get_or xs i d)) within;
      count = length-reverse (take i ys) ∙ length-take-le i ys (omega (arith, within));
      changes = λ new. ap reverse (map-set plain_row xs i new) ∙ reverse-set ys i (plain_row new) within;
    }

-- a node that is changed
pub changed-row : {Z : Type 0} (f : Row → Row) (commutes : (n : ℕ) (r : Row) → f (with_number n r) ≡ with_number n (f r)) (xs : List (Node Z)) (i n : ℕ) (d new : Node Z)
    → IsAt n i (length xs) → plain_row new ≡ f (plain_row (get_or xs i d)) → rows_of (set xs i new) ≡ changed n f (rows_of xs)
changed-row f commutes xs i n d new at to =
    let later = reverse (drop (suc i) (map plain_row xs)) in
    let earlier = reverse (take i (map plain_row xs)) in
    let old = plain_row (get_or xs i d) in
    let a = is-among xs i d at.within in
    ap numbered (a.changes new ∙ ap (λ r. later ++ r ∷ earlier) to) ∙ (sym (changed-there f commutes later old earlier)
    ∙ (ap (λ k. changed (number_at k) f (numbered (later ++ old ∷ earlier))) a.count
    ∙ (ap (λ m. changed m f (numbered (later ++ old ∷ earlier))) at.number ∙ ap (λ l. changed n f (numbered l)) (sym a.rows))))

pub changed-absent : {Z : Type 0} (f : Row → Row) (xs : List (Node Z)) (n : ℕ) → IsAbsent n (length xs) → rows_of xs ≡ changed n f (rows_of xs)
changed-absent f xs n h =
    let rows = reverse (map plain_row xs) in
    sym (changed-nowhere n f rows (λ k w e. h.other k (omega (arith, w, length-reverse (map plain_row xs), length-map xs plain_row)) e))

-- a node that is read
pub read-row : {Z : Type 0} (xs : List (Node Z)) (i n : ℕ) (d : Node Z) → IsAt n i (length xs) → row_of n (rows_of xs) ≡ with_number n (plain_row (get_or xs i d))
read-row xs i n d at =
    let later = reverse (drop (suc i) (map plain_row xs)) in
    let earlier = reverse (take i (map plain_row xs)) in
    let old = plain_row (get_or xs i d) in
    let a = is-among xs i d at.within in
    let number : number_at (length earlier) ≡ n = ap number_at a.count ∙ at.number in
    ap (λ l. row_of n (numbered l)) a.rows ∙ (ap (λ m. row_of m (numbered (later ++ old ∷ earlier))) (sym number)
    ∙ (row-there later old earlier ∙ ap (λ m. with_number m old) number))

pub read-absent : {Z : Type 0} (xs : List (Node Z)) (n : ℕ) → IsAbsent n (length xs) → row_of n (rows_of xs) ≡ new_row n TemplateContents
read-absent xs n h =
    row-nowhere n (reverse (map plain_row xs)) (λ k w e. h.other k (omega (arith, w, length-reverse (map plain_row xs), length-map xs plain_row)) e)

-- a node that is added
pub pushed-row : {Z : Type 0} (xs : List (Node Z)) (node : Node Z) → rows_of (xs ++ node ∷ []) ≡ with_number (number_at (length xs)) (plain_row node) ∷ rows_of xs
unfolding numbered
pushed-row xs node =
    let ys = map plain_row xs in
    let count : length (reverse ys) ≡ length xs = length-reverse ys ∙ length-map xs plain_row in
    ap numbered (ap reverse (map-append plain_row xs (node ∷ [])) ∙ reverse-append ys (plain_row node ∷ []))
    ∙ ap (λ k. with_number (number_at k) (plain_row node) ∷ numbered (reverse ys)) count

-- ---- all nodes of one parent get another

moved-number : (source target n : ℕ) (r : Row) → moved source target (with_number n r) ≡ with_number n (moved source target r)
moved-number source target n r =
    elim (is_child_of source r.parent) as (λ b. (if b then record (with_number n r) { parent = Some target } else with_number n r) ≡ with_number n (if b then record r { parent = Some target } else r)) [ true ↦ refl | false ↦ refl ]

moved-numbered : (source target : ℕ) (rows : List Row) → map (moved source target) (numbered rows) ≡ numbered (map (moved source target) rows)
unfolding numbered
moved-numbered source target [] = refl
moved-numbered source target (r ∷ rows) =
    ap (λ x. x ∷ map (moved source target) (numbered rows)) (moved-number source target (number_at (length rows)) r)
    ∙ (ap (λ l. with_number (number_at (length rows)) (moved source target r) ∷ l) (moved-numbered source target rows)
    ∙ ap (λ k. with_number (number_at k) (moved source target r) ∷ numbered (map (moved source target) rows)) (sym (length-map rows (moved source target))))

reverse-map : {X Y : Type 0} (f : X → Y) (xs : List X) → reverse (map f xs) ≡ map f (reverse xs)
reverse-map f [] = refl
reverse-map f (x ∷ xs) =
    reverse-append (f x ∷ []) (map f xs) ∙ (ap (λ ys. ys ++ f x ∷ []) (reverse-map f xs)
    ∙ (sym (map-append f (reverse xs) (x ∷ [])) ∙ ap (map f) (sym (reverse-append (x ∷ []) xs))))

-- all nodes are changed in order
pub moved-rows : {Z : Type 0} (source target : ℕ) (xs ys : List (Node Z)) → map plain_row ys ≡ map (moved source target) (map plain_row xs)
    → rows_of ys ≡ map (moved source target) (rows_of xs)
moved-rows source target xs ys e =
    ap (λ l. numbered (reverse l)) e ∙ (ap numbered (reverse-map (moved source target) (map plain_row xs))
    ∙ sym (moved-numbered source target (reverse (map plain_row xs))))

-- a loop over all nodes has come to the end
pub moved-all : {Z : Type 0} (f : Row → Row) (xs ys : List (Node Z)) (i : ℕ)
    → map plain_row ys ≡ map f (map plain_row (take i xs)) ++ map plain_row (drop i xs) → length xs ≤ i → map plain_row ys ≡ map f (map plain_row xs)
moved-all f xs ys i e h =
    e ∙ (ap (λ l. map f (map plain_row l) ++ map plain_row (drop i xs)) (take_all i xs h)
    ∙ (ap (λ l. map f (map plain_row xs) ++ map plain_row l) (drop_all i xs h) ∙ append-nil (map f (map plain_row xs))))

-- ---- a node is made

number-later : (k : ℕ) → 0 < k → number_at k ≡ suc (suc k)
number-later zero h = absurd (omega (arith, h))
number-later (suc k) h = refl

pub made : {Z : Type 0} (xs ys : List (Node Z)) (node : Node Z) (n : ℕ) (what : What) → 0 < length xs → n ≡ length xs + 2 → ys ≡ xs ++ node ∷ []
    → plain_row node ≡ new_row 0 what → IsMade n what xs ys
made xs ys node n what some e is plain =
    let number : number_at (length xs) ≡ n = number-later (length xs) some ∙ omega (arith, e) in
    record {
      number = omega (arith, e);
      rows =
          ap rows_of is ∙ (pushed-row xs node ∙ (ap (λ r. with_number (number_at (length xs)) r ∷ rows_of xs) plain
          ∙ ap (λ m. new_row m what ∷ rows_of xs) number));
      count = ap length is ∙ omega (arith, length_push xs node);
    }

-- the first node, the document
pub made-first : {Z : Type 0} (xs ys : List (Node Z)) (node : Node Z) (what : What) → xs ≡ [] → ys ≡ xs ++ node ∷ [] → plain_row node ≡ new_row 0 what
    → rows_of ys ≡ new_row 0 what ∷ []
unfolding numbered
made-first xs ys node what none is plain =
    ap rows_of (is ∙ ap (λ l. l ++ node ∷ []) none) ∙ ap (λ r. numbered (reverse (r ∷ []))) plain

-- ---- how many

length-numbered : (rows : List Row) → length (numbered rows) ≡ length rows
unfolding numbered
length-numbered [] = refl
length-numbered (r ∷ rows) = ap suc (length-numbered rows)

pub length-rows : {Z : Type 0} (xs : List (Node Z)) → length (rows_of xs) ≡ length xs
length-rows xs = length-numbered (reverse (map plain_row xs)) ∙ (length-reverse (map plain_row xs) ∙ length-map xs plain_row)
