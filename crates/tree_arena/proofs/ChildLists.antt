-- Where a node stands among children that are kept in order.
use Rattle.std.proofs.Common.{◌≡◌, ℕ, suc, ◌+◌, ◌<◌, ◌≤◌, Bool, true, false, List, [], ◌∷◌, ◌++◌, length, get_or, take, drop, map, refl, ap, sym, ◌∙◌, arith, append_assoc}
use Rattle.std.specs.Prelude.{reverse, if◌then◌else◌}
use Rattle.std.proofs.Math.ListN.{set}
use Rattle.std.proofs.lemmas.List.{append-nil, drop_all, drop_more, map-append, reverse-append, set_split, take-append-drop, take_more}
use Rattle.tree_construction.specs.Document.{Child as DocumentChild, added, added_before, without_node, is_node}
use Rattle.tree_arena.specs.declared.row.Child.{Child}
use Rattle.tree_arena.specs.Children.{IsLastAt, IsNowhere, child_of, children_of, has_node, put_in}

pub if-false : (b c : Bool) → (if b then true else c) ≡ false → (b ≡ false) × (c ≡ false)
if-false true c e = cc
if-false false c e = (refl, e)

-- ---- children, the last first

before-past : (n : ℕ) (child : DocumentChild) (xs ys : List DocumentChild) → has_node n xs ≡ false → added_before n child (xs ++ ys) ≡ xs ++ added_before n child ys
unfolding added_before has_node
before-past n child [] ys h = refl
before-past n child (x ∷ xs) ys h =
    let s = if-false (is_node n x) (has_node n xs) h in
    rw s.0 (ap (λ l. x ∷ l) (before-past n child xs ys s.1))

without-past : (n : ℕ) (xs ys : List DocumentChild) → has_node n xs ≡ false → without_node n (xs ++ ys) ≡ xs ++ without_node n ys
unfolding without_node has_node
without-past n [] ys h = refl
without-past n (x ∷ xs) ys h =
    let s = if-false (is_node n x) (has_node n xs) h in
    rw s.0 (ap (λ l. x ∷ l) (without-past n xs ys s.1))

before-here : (n : ℕ) (child x : DocumentChild) (ys : List DocumentChild) → is_node n x ≡ true → added_before n child (x ∷ ys) ≡ x ∷ added child ys
unfolding added_before
before-here n child x ys h = rw h refl

without-here : (n : ℕ) (x : DocumentChild) (ys : List DocumentChild) → is_node n x ≡ true → without_node n (x ∷ ys) ≡ ys
unfolding without_node
without-here n x ys h = rw h refl

before-none : (n : ℕ) (child : DocumentChild) → added_before n child [] ≡ []
unfolding added_before
before-none n child = refl

without-none : (n : ℕ) → without_node n [] ≡ []
unfolding without_node
without-none n = refl

has-none : (n : ℕ) → has_node n [] ≡ false
unfolding has_node
has-none n = refl

has-past : (n : ℕ) (xs : List DocumentChild) (x : DocumentChild) → has_node n xs ≡ false → is_node n x ≡ false → has_node n (xs ++ x ∷ []) ≡ false
unfolding has_node
has-past n [] x h t = rw t refl
has-past n (y ∷ xs) x h t =
    let s = if-false (is_node n y) (has_node n xs) h in
    rw s.0 (has-past n xs x s.1 t)

-- ---- children in order

pub children-append : {Z : Type 0} (xs ys : List (Child Z)) → children_of (xs ++ ys) ≡ children_of ys ++ children_of xs
children-append xs ys = ap reverse (map-append child_of xs ys) ∙ reverse-append (map child_of xs) (map child_of ys)

children-cons : {Z : Type 0} (x : Child Z) (xs : List (Child Z)) → children_of (x ∷ xs) ≡ children_of xs ++ child_of x ∷ []
children-cons x xs = children-append (x ∷ []) xs

-- from an index on
children-from : {Z : Type 0} (xs : List (Child Z)) (i : ℕ) (x : Child Z) → i < length xs → x ≡ get_or xs i x
    → children_of (drop i xs) ≡ children_of (drop (i + 1) xs) ++ child_of x ∷ []
children-from xs i x h is =
    ap children_of (drop_more xs i x h)
    ∙ (children-cons (get_or xs i x) (drop (i + 1) xs) ∙ ap (λ y. children_of (drop (i + 1) xs) ++ child_of y ∷ []) (sym is))

-- up to an index, and from it on
children-halves : {Z : Type 0} (xs : List (Child Z)) (i : ℕ) → children_of xs ≡ children_of (drop i xs) ++ children_of (take i xs)
children-halves xs i = ap children_of (sym (take-append-drop i xs)) ∙ children-append (take i xs) (drop i xs)

children-parts : {Z : Type 0} (xs : List (Child Z)) (i : ℕ) (x : Child Z) → i < length xs → x ≡ get_or xs i x
    → children_of xs ≡ children_of (drop (i + 1) xs) ++ child_of x ∷ children_of (take i xs)
children-parts xs i x h is =
    children-halves xs i ∙ (ap (λ l. l ++ children_of (take i xs)) (children-from xs i x h is)
    ∙ append_assoc (children_of (drop (i + 1) xs)) (child_of x ∷ []) (children_of (take i xs)))

-- ---- a search from the end

pub passed-none : {Z : Type 0} (n : ℕ) (xs : List (Child Z)) → has_node n (children_of (drop (length xs) xs)) ≡ false
passed-none n xs = ap (λ l. has_node n (children_of l)) (drop_all (length xs) xs (omega arith)) ∙ has-none n

pub passed-more : {Z : Type 0} (n : ℕ) (xs : List (Child Z)) (k i : ℕ) (x : Child Z) → i + 1 ≡ k → k ≤ length xs → x ≡ get_or xs i x
    → has_node n (children_of (drop k xs)) ≡ false → is_node n (child_of x) ≡ false → has_node n (children_of (drop i xs)) ≡ false
passed-more n xs k i x e h is p t =
    ap (has_node n) (children-from xs i x (omega (arith, e, h)) is)
    ∙ has-past n (children_of (drop (i + 1) xs)) (child_of x) (ap (λ m. has_node n (children_of (drop m xs))) e ∙ p) t

pub stands-last : {Z : Type 0} (n : ℕ) (xs : List (Child Z)) (k i : ℕ) (x : Child Z) → i + 1 ≡ k → k ≤ length xs → x ≡ get_or xs i x
    → has_node n (children_of (drop k xs)) ≡ false → is_node n (child_of x) ≡ true → IsLastAt n xs i
stands-last n xs k i x e h is p t =
    let within : i < length xs = omega (arith, e, h) in
    let later = children_of (drop (i + 1) xs) in
    let earlier = children_of (take i xs) in
    let parts = children-parts xs i x within is in
    let none : has_node n later ≡ false = ap (λ m. has_node n (children_of (drop m xs))) e ∙ p in
    record {
      within = within;
      before = λ child.
          ap (added_before n child) parts ∙ (before-past n child later (child_of x ∷ earlier) none
          ∙ (ap (λ l. later ++ l) (before-here n child (child_of x) earlier t) ∙ (sym (append_assoc later (child_of x ∷ []) (added child earlier))
          ∙ ap (λ l. l ++ added child earlier) (sym (children-from xs i x within is)))));
      without =
          ap (without_node n) parts ∙ (without-past n later (child_of x ∷ earlier) none ∙ ap (λ l. later ++ l) (without-here n (child_of x) earlier t));
    }

pub stands-nowhere : {Z : Type 0} (n : ℕ) (xs : List (Child Z)) → has_node n (children_of xs) ≡ false → IsNowhere n xs
stands-nowhere n xs h =
    let all = children_of xs in
    let whole = append-nil all in
    record {
      before = λ child. ap (added_before n child) (sym whole) ∙ (before-past n child all [] h ∙ (ap (λ l. all ++ l) (before-none n child) ∙ whole));
      without = ap (without_node n) (sym whole) ∙ (without-past n all [] h ∙ (ap (λ l. all ++ l) (without-none n) ∙ whole));
    }

-- ---- a text is joined with the one before the index

pub joined-before : {Z : Type 0} (xs : List (Child Z)) (k i : ℕ) (old new : Child Z) (child : DocumentChild) → i + 1 ≡ k → k ≤ length xs → old ≡ get_or xs i old
    → ((rest : List DocumentChild) → child_of new ∷ rest ≡ added child (child_of old ∷ rest)) → children_of (set xs i new) ≡ put_in k child xs
joined-before xs k i old new child e h is joined =
    let within : i < length xs = omega (arith, e, h) in
    let later = children_of (drop k xs) in
    let earlier = children_of (take i xs) in
    let next : suc i ≡ k = omega (arith, e) in
    let rest : children_of (drop (suc i) xs) ≡ later = ap (λ m. children_of (drop m xs)) next in
    let front : children_of (take k xs) ≡ child_of old ∷ earlier =
    ap (λ m. children_of (take m xs)) (sym e) ∙ (ap children_of (take_more xs i old within) ∙ (children-append (take i xs) (get_or xs i old ∷ [])
    ∙ ap (λ y. child_of y ∷ earlier) (sym is))) in
    ap children_of (set_split xs i new within) ∙ (children-append (take i xs) (new ∷ drop (suc i) xs)
    ∙ (ap (λ l. l ++ earlier) (children-cons new (drop (suc i) xs)) ∙ (append_assoc (children_of (drop (suc i) xs)) (child_of new ∷ []) earlier
    ∙ (ap (λ l. l ++ child_of new ∷ earlier) rest ∙ (ap (λ l. later ++ l) (joined earlier) ∙ ap (λ l. later ++ added child l) (sym front))))))
