-- What a text tells is what its pieces tell, one after the other.
use Rattle.std.proofs.Common.{◌≡◌, ℕ, Bool, true, false, List, [], ◌∷◌, ◌++◌, refl, ap, sym, ◌∙◌}
use Rattle.std.specs.Prelude.{◌||◌, not}
use Rattle.std.proofs.lemmas.List.{append-nil, append_assoc}
use Rattle.std.proofs.lemmas.List.Folds.{list_any-append}
use Rattle.html5reading.specs.Start.{Rules, Start}
use Rattle.html5places.specs.Marks.{Marks, Placed}
use Rattle.html5places.specs.Placed.{Beginning, all_handed, at_character, at_first_byte, has_token, is_error, marks_from, marks_of, marks_past, placed_at_end, placed_by, placed_from, placed_tokens, told_at}

module _ (rules : Rules) (K : Start) where
  pub marks_from-append : (s : Marks) (before a b : List ℕ)
      → marks_from rules K s before (a ++ b) ≡ marks_from rules K (marks_from rules K s before a) (before ++ a) b
  unfolding marks_from
  marks_from-append s before [] b = ap (λ l. marks_from rules K s l b) (sym (append-nil before))
  marks_from-append s before (c ∷ a) b =
      let past : Marks = marks_past rules K s before c in
      marks_from-append past (before ++ c ∷ []) a b
      ∙ ap (λ l. marks_from rules K (marks_from rules K past (before ++ c ∷ []) a) l b) (append_assoc before (c ∷ []) a)

  pub placed_from-append : (s : Marks) (before a b : List ℕ)
      → placed_from rules K s before (a ++ b)
      ≡ placed_from rules K s before a ++ placed_from rules K (marks_from rules K s before a) (before ++ a) b
  unfolding marks_from placed_from
  placed_from-append s before [] b = ap (λ l. placed_from rules K s l b) (sym (append-nil before))
  placed_from-append s before (c ∷ a) b =
      let here : List Placed = all_handed (at_character s c) (told_at rules K before c) in
      let past : Marks = marks_past rules K s before c in
      let later : Marks = marks_from rules K past (before ++ c ∷ []) a in
      ap (λ l. here ++ l) (placed_from-append past (before ++ c ∷ []) a b)
      ∙ ap (λ l. here ++ (placed_from rules K past (before ++ c ∷ []) a ++ placed_from rules K later l b)) (append_assoc before (c ∷ []) a)
      ∙ sym (append_assoc here (placed_from rules K past (before ++ c ∷ []) a) (placed_from rules K later (before ++ (c ∷ a)) b))

  -- at one character
  pub marks_from-one : (s : Marks) (before : List ℕ) (c : ℕ) → marks_from rules K s before (c ∷ []) ≡ marks_past rules K s before c
  unfolding marks_from
  marks_from-one s before c = refl

  pub placed_from-one : (s : Marks) (before : List ℕ) (c : ℕ)
      → placed_from rules K s before (c ∷ []) ≡ all_handed (at_character s c) (told_at rules K before c)
  unfolding placed_from
  placed_from-one s before c = append-nil (all_handed (at_character s c) (told_at rules K before c))

module _ (rules : Rules) (B : Beginning) where
  pub marks_of-append : (a b : List ℕ) → marks_of rules B (a ++ b) ≡ marks_from rules B.start (marks_of rules B a) a b
  marks_of-append a b = marks_from-append rules B.start B.marks [] a b

  pub marks_of-nil : marks_of rules B [] ≡ B.marks
  unfolding marks_from
  marks_of-nil = refl

  pub placed_by-nil : (before : List ℕ) → placed_by rules B before [] ≡ []
  unfolding placed_from
  placed_by-nil before = refl

  pub placed_by-append : (before a b : List ℕ)
      → placed_by rules B before (a ++ b) ≡ placed_by rules B before a ++ placed_by rules B (before ++ a) b
  placed_by-append before a b =
      placed_from-append rules B.start (marks_of rules B before) before a b
      ∙ ap (λ s. placed_by rules B before a ++ placed_from rules B.start s (before ++ a) b) (sym (marks_of-append before a))

  -- of a piece that tells no token, each prefix tells none
  pub has_no_token : (before a b : List ℕ) → has_token (placed_by rules B before (a ++ b)) ≡ false → has_token (placed_by rules B before a) ≡ false
  has_no_token before a b none =
      first _ _ (sym (list_any-append (λ (p : Placed). not (is_error p.token)) (placed_by rules B before a) (placed_by rules B (before ++ a) b))
      ∙ ap has_token (sym (placed_by-append before a b)) ∙ none)
    where
      first : (x y : Bool) → (x || y) ≡ false → x ≡ false
      first false y h = refl
      first true y h = h

  pub has_token-append : (before a b : List ℕ) → has_token (placed_by rules B before a) ≡ false → has_token (placed_by rules B (before ++ a) b) ≡ false
      → has_token (placed_by rules B before (a ++ b)) ≡ false
  has_token-append before a b first second =
      ap has_token (placed_by-append before a b)
      ∙ list_any-append (λ (p : Placed). not (is_error p.token)) (placed_by rules B before a) (placed_by rules B (before ++ a) b)
      ∙ ap (λ x. x || has_token (placed_by rules B (before ++ a) b)) first
      ∙ second

-- the tokens of a whole text are those of two pieces and of the end
pub tokens-of_pieces : (rules : Rules) (K : Start) (a b : List ℕ)
    → placed_tokens rules K (a ++ b)
    ≡ placed_by rules (at_first_byte K) [] a ++ (placed_by rules (at_first_byte K) a b ++ placed_at_end rules (at_first_byte K) (a ++ b))
tokens-of_pieces rules K a b =
    let B : Beginning = at_first_byte K in
    ap (λ l. l ++ placed_at_end rules B (a ++ b)) (placed_by-append rules B [] a b)
    ∙ append_assoc (placed_by rules B [] a) (placed_by rules B a b) (placed_at_end rules B (a ++ b))
