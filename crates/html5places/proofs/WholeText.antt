-- A reader from the start of a text to its end.
use Rattle.std.proofs.Common.{◌≡◌, ◌⊎◌, ◌↔◌, inl, inr, ℕ, ◌<◌, ◌≤◌, ◌^◌, Bool, true, false, List, [], ◌++◌, refl, ap, sym, ◌∙◌, subst, arith}
use Rattle.std.specs.Prelude.{Result, Err}
use Rattle.std.proofs.lemmas.Bool.{false≢true}
use Rattle.std.proofs.lemmas.List.{append-nil}
use Rattle.html5ever.specs.Tokenizer.{StandsAt}
use Rattle.html5reading.specs.Start.{Rules, Start}
use Rattle.html5reading.proofs.ReadingLemmas.{after-nil}
use Rattle.html5places.specs.Marks.{Placed, Placing, no_marks}
use Rattle.html5places.specs.Placed.{Beginning, at_first_byte, handed_on, placed_at_end, placed_by, placed_tokens}
use Rattle.html5places.specs.Readers.{IsPart, Reader, Reading, Reads, ReadsEnd, StandsAfter, StopsAtEnd, StopsWithin, reading_of}
use Rattle.html5places.specs.declared.error.PlaceError.{PlaceError}
use Rattle.html5places.specs.declared.error.PlaceError.TheVariants.{Failed, Handler, Memory, TooLong}
use Rattle.html5places.proofs.OneCharacter.{sink_means}
use Rattle.html5places.proofs.HandingOn.{handed-nothing}
use Rattle.html5places.proofs.ManyCharacters.{stands-at_beginning, to-stands}
use Rattle.html5places.proofs.Stepping.{handed_on-append, part-later}

-- a new tokenizer stands at the first byte
pub stands-new : (t : Reader) (K : Start) (s : Placing (List Placed)) → StandsAt sink_means t K s [] → t.sink.marks ≡ no_marks
    → StandsAfter (reading_of t) (at_first_byte K) []
stands-new t K s stands marks =
    stands-at_beginning (reading_of t) (at_first_byte K)
    (stands.position ∙ after-nil sink_means.step sink_means.reply sink_means.foreign t.rules K s) marks

module _ {S : Type 0} (step : S → Placed → S) (r q : Reading) (R : Rules) (K : Start) (text : List ℕ) where
  abbrev B : Beginning
  B = at_first_byte K

  -- the text was read, and the end
  pub whole-read : (h i j : S) → StandsAfter r B [] → r.rules ≡ R → q.rules ≡ r.rules → Reads step r q h i text → ReadsEnd step q i j
      → j ≡ handed_on step h (placed_tokens R K text)
  whole-read h i j stands rules same reads ends =
      let one = reads B [] stands in
      ends B text one.stands
      ∙ ap (λ s. handed_on step s (placed_at_end q.rules B text)) one.handler
      ∙ sym (handed_on-append step h (placed_by r.rules B [] text) (placed_at_end q.rules B text))
      ∙ ap (λ rs. handed_on step h (placed_by r.rules B [] text ++ placed_at_end rs B text)) same
      ∙ ap (λ rs. handed_on step h (placed_tokens rs K text)) rules

  -- the reading stopped within the text
  pub whole-stopped : (h i : S) → StandsAfter r B [] → r.rules ≡ R → StopsWithin step r h i text → IsPart step h (placed_tokens R K text) i
  whole-stopped h i stands rules stops =
      let part = stops B [] stands in
      subst (λ rs. IsPart step h (placed_tokens rs K text) i) rules
      (part-later step h h i [] (placed_by r.rules B [] text) (placed_at_end r.rules B text) (sym (handed-nothing step h)) part)

  -- or at the end
  pub whole-end_stopped : (h i j : S) → StandsAfter r B [] → r.rules ≡ R → q.rules ≡ r.rules → Reads step r q h i text → StopsAtEnd step q i j
      → IsPart step h (placed_tokens R K text) j
  whole-end_stopped h i j stands rules same reads stops =
      let one = reads B [] stands in
      let last : List Placed = placed_at_end q.rules B text in
      subst (λ rs. IsPart step h (placed_tokens rs K text) j) rules
      (subst (λ rs. IsPart step h (placed_by r.rules B [] text ++ placed_at_end rs B text) j) same
      (subst (λ l. IsPart step h (placed_by r.rules B [] text ++ l) j) (append-nil last)
      (part-later step h i j (placed_by r.rules B [] text) last [] one.handler (stops B text one.stands))))

-- a reader that is not over refuses a text that fits only when out of memory, or because the handler did
pub refuses-by : {T : Type 0} (r : Result T PlaceError) (e : PlaceError) (over : Bool) (len : ℕ) → r ≡ Err e → over ≡ false → len < 2 ^ 64
    → (r ≡ Err Failed) ↔ (over ≡ true) → (r ≡ Err TooLong) ↔ ((over ≡ false) × (2 ^ 64 ≤ len))
    → (e ≡ Memory) ⊎ (e ≡ Handler)
refuses-by r Memory over len is going fits failed long = inl refl
refuses-by r Handler over len is going fits failed long = inr refl
refuses-by r TooLong over len is going fits failed long =
    let least : 2 ^ 64 ≤ len = (long.0 is).1 in
    let never : ⊥ = omega (arith, least, fits) in
    absurd never
refuses-by r Failed over len is going fits failed long = absurd (false≢true (sym going ∙ failed.0 is))

-- at the first byte no byte was read
pub none-read : (r : Reading) (K : Start) → StandsAfter r (at_first_byte K) [] → r.marks.to ≡ 0
none-read r K stands = to-stands r (at_first_byte K) [] stands
