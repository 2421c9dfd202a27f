-- End tags that are written one after the other.
use Rattle.std.proofs.Common.{◌≡◌, ℕ, zero, suc, ◌-◌, ◌<◌, List, [], ◌∷◌, ◌++◌, take, String, refl, ap, sym, ◌∙◌, append_assoc, arith}
use Rattle.std.proofs.lemmas.List.{append-nil}
use Rattle.html5write.specs.Pieces.{Piece}
use Rattle.html5write.specs.Pieces.Piece.{EndTagPiece}
use Rattle.html5cleaner.specs.Balance.{end_tags}
use Rattle.html5cleaner.specs.Open.{name_of, names_of}
use Rattle.html5cleaner.proofs.NameLemmas.{names-push}

take-first : {X : Type 0} (n : ℕ) (x : X) (xs : List X) → 0 < n → take n (x ∷ xs) ≡ x ∷ take (n - 1) xs
take-first zero x xs some = absurd (omega (arith, some))
take-first (suc n) x xs some = let less : n ≡ suc n - 1 = omega arith in ap (λ k. x ∷ take k xs) less

take-none : (n : ℕ) (opened : List (List ℕ)) → opened ≡ [] → take n opened ≡ []
take-none zero opened none = refl
take-none (suc n) opened none = ap (take (suc n)) none

module _ {Z : Type 0} where
  -- the end tag of the innermost name was written
  pub next-end_tag : (page after : List Piece) (wanted : ℕ) (names outer : List (String Z)) (name : String Z) → 0 < wanted → names ≡ outer ++ name ∷ []
      → after ≡ page ++ EndTagPiece (name_of name) ∷ []
      → after ++ end_tags (take (wanted - 1) (names_of outer)) ≡ page ++ end_tags (take wanted (names_of names))
  next-end_tag page after wanted names outer name some is written =
      ap (λ l. l ++ end_tags (take (wanted - 1) (names_of outer))) written
      ∙ append_assoc page (EndTagPiece (name_of name) ∷ []) (end_tags (take (wanted - 1) (names_of outer)))
      ∙ ap (λ (l : List (List ℕ)). page ++ end_tags l) (sym (take-first wanted (name_of name) (names_of outer) some))
      ∙ ap (λ (l : List (List ℕ)). page ++ end_tags (take wanted l)) (sym (ap names_of is ∙ names-push outer name))

  -- no name is left
  pub no-names : (page : List Piece) (wanted : ℕ) (names : List (String Z)) → names ≡ [] → page ≡ page ++ end_tags (take wanted (names_of names))
  no-names page wanted names none =
      sym (ap (λ (l : List (List ℕ)). page ++ end_tags l) (take-none wanted (names_of names) (ap names_of none)) ∙ append-nil page)

  -- none is wanted
  pub none-wanted : (page : List Piece) (wanted : ℕ) (names : List (String Z)) → wanted ≡ 0 → page ≡ page ++ end_tags (take wanted (names_of names))
  none-wanted page wanted names none = sym (ap (λ n. page ++ end_tags (take n (names_of names))) none ∙ append-nil page)
