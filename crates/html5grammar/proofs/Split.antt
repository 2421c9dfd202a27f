-- A prefix of the normalised text is the normalised text of a prefix.
use Rattle.std.proofs.Common.{◌≡◌, ℕ, Bool, true, false, List, [], ◌∷◌, ◌++◌, refl, ap, sym, ◌∙◌, subst}
use Rattle.std.specs.Prelude.{◌==◌, if◌then◌else◌}
use Rattle.std.proofs.lemmas.Bool.{false≢true}
use Rattle.html5reading.specs.Characters.{carriage_return, line_feed}
use Rattle.html5reading.specs.NormalisedText.{normalised, input_after, drops_first, without_dropped_first, with_line_feeds}
use Rattle.html5reading.specs.Start.{Input}
use Rattle.html5reading.proofs.InputLemmas.{normalised-append, input_after-append, normalised-dropped, normalised-kept}

-- the text X, read from I, is Y and then Z, and Y reads as A, and Z after it as B
pub record Split (I : Input) (X A B : List ℕ) : Type 0 where
  pub Y : List ℕ
  pub Z : List ℕ
  pub parts : X ≡ Y ++ Z
  pub front : normalised I Y ≡ A
  pub rest : normalised (input_after I Y) Z ≡ B

tail_of : List ℕ → List ℕ
tail_of [] = []
tail_of (c ∷ text) = text

first_of_or : ℕ → List ℕ → ℕ
first_of_or d [] = d
first_of_or d (c ∷ text) = c

pub cons_first : {a b : ℕ} {A B : List ℕ} → a ∷ A ≡ b ∷ B → a ≡ b
unfolding first_of_or
cons_first {a = a} e = ap (first_of_or a) e

pub cons_rest : {a b : ℕ} {A B : List ℕ} → a ∷ A ≡ b ∷ B → A ≡ B
unfolding tail_of
cons_rest e = ap tail_of e

is_some : List ℕ → Bool
is_some [] = false
is_some (c ∷ text) = true

pub nil≢cons : {a : ℕ} {A : List ℕ} → [] ≡ a ∷ A → (⊥)
unfolding is_some
nil≢cons e = false≢true (ap is_some e)

Split-cons : (I : Input) (c : ℕ) (X n A B : List ℕ) → normalised I (c ∷ []) ≡ n → Split (input_after I (c ∷ [])) X A B → Split I (c ∷ X) (n ++ A) B
Split-cons I c X n A B e s = record {
  Y = c ∷ s.Y;
  Z = s.Z;
  parts = ap (λ l. c ∷ l) s.parts;
  front = normalised-append I (c ∷ []) s.Y ∙ rw (e, s.front) refl;
  rest = ap (λ J. normalised J s.Z) (input_after-append I (c ∷ []) s.Y) ∙ s.rest;
}

abbrev pub one_of : ℕ → ℕ
one_of c = if c == carriage_return then line_feed else c

pub kept-one : (I : Input) (c : ℕ) → drops_first I c ≡ false → normalised I (c ∷ []) ≡ one_of c ∷ []
kept-one I c e =
    normalised-kept I c e
    ∙ elim (c == carriage_return) as (λ b. (if b then line_feed ∷ [] else c ∷ []) ≡ (if b then line_feed else c) ∷ []) [ true ↦ refl | false ↦ refl ]

split-first : (I : Input) (c : ℕ) (X : List ℕ) (a : ℕ) (A B : List ℕ) (drops : Bool) → drops_first I c ≡ drops
    → ((A' : List ℕ) → normalised (input_after I (c ∷ [])) X ≡ A' ++ B → Split (input_after I (c ∷ [])) X A' B)
    → normalised I (c ∷ X) ≡ a ∷ A ++ B → Split I (c ∷ X) (a ∷ A) B
split-first I c X a A B true d split e =
    Split-cons I c X [] (a ∷ A) B (normalised-dropped I c d)
    (split (a ∷ A) (sym (normalised-append I (c ∷ []) X ∙ rw (normalised-dropped I c d) refl) ∙ e))
split-first I c X a A B false d split e =
    let whole : one_of c ∷ normalised (input_after I (c ∷ [])) X ≡ a ∷ A ++ B =
    sym (normalised-append I (c ∷ []) X ∙ rw (kept-one I c d) refl) ∙ e in
    subst (λ x. Split I (c ∷ X) (x ∷ A) B) (cons_first whole) (Split-cons I c X (one_of c ∷ []) A B (kept-one I c d) (split A (cons_rest whole)))

pub split : (I : Input) (X A B : List ℕ) → normalised I X ≡ A ++ B → Split I X A B
unfolding normalised without_dropped_first with_line_feeds input_after
split I X [] B e = record { Y = []; Z = X; parts = refl; front = refl; rest = e }
split I [] (a ∷ A) B e = absurd (nil≢cons e)
split I (c ∷ X) (a ∷ A) B e = split-first I c X a A B (drops_first I c) refl (λ A' h. split (input_after I (c ∷ [])) X A' B h) e
