-- A reference in a value ends with the value at the latest, whichever character ends that.
use Rattle.std.proofs.Common.{◌≡◌, ◌≤◌, ◌⊎◌, inl, inr, ℕ, zero, suc, Bool, true, false, List, [], ◌∷◌, ◌++◌, take, drop, length, Option, None, Some, refl, ap, sym, ◌∙◌, arith}
use Rattle.std.specs.Prelude.{◌==◌, ◌||◌, All, IsTrue, if◌then◌else◌}
use Rattle.std.specs.Char.{is_ascii_alphanumeric}
use Rattle.std.specs.List.{list_all}
use Rattle.std.specs.Option.{is_none}
use Rattle.std.proofs.lemmas.Bool.{false≢true, and_parts, false_from_ne_true}
use Rattle.std.proofs.lemmas.List.Folds.{list_all-append}
use Rattle.html5reading.specs.Characters.{number_sign, semicolon, equals_sign}
use Rattle.html5reading.specs.Reference.{reference, number_reference, named_reference, no_name, unended_number, without_digits, longest_name, goes_on, first_or, is_undecided}
use Rattle.html5reading.specs.Slice.{run_while, after_while}
use Rattle.html5reading.specs.Start.{Rules}
use Rattle.html5grammar.specs.Tag.{found_in, held_in, deciding_in}
use Rattle.html5grammar.proofs.Reference.Anywhere.{is_held_character, held-undecided}
use Rattle.markup5ever.specs.NamedReferences.{NamedReference, is_plain_name}

-- a character that no reference holds, and after which a name without its semicolon is one
pub record IsStop (c : ℕ) : Type 0 where
  pub other : is_held_character c ≡ false
  pub no_equals : (c == equals_sign) ≡ false

or_none : (a b d : Bool) → (a || b || d) ≡ false → (a ≡ false) × (b ≡ false) × (d ≡ false)
or_none true b d h = absurd (false≢true (sym h))
or_none false true d h = absurd (false≢true (sym h))
or_none false false true h = absurd (false≢true (sym h))
or_none false false false h = (refl, refl, refl)

stop-parts : (c : ℕ) → IsStop c → (is_ascii_alphanumeric c ≡ false) × ((c == number_sign) ≡ false) × ((c == semicolon) ≡ false)
unfolding is_held_character
stop-parts c stop = or_none (is_ascii_alphanumeric c) (c == number_sign) (c == semicolon) stop.other

-- the held text doesn't go on with it
stop-decides : (references : List NamedReference) (held : List ℕ) (c : ℕ) → All (λ entry. IsTrue (is_plain_name entry.name)) references → IsStop c → is_undecided references (held ++ c ∷ []) ≡ false
stop-decides references held c plain stop =
    false_from_ne_true (is_undecided references (held ++ c ∷ [])) (λ e.
    let all = and_parts (list_all is_held_character held) (list_all is_held_character (c ∷ [])) (sym (list_all-append is_held_character held (c ∷ [])) ∙ held-undecided references (held ++ c ∷ []) plain e) in
    false≢true (sym stop.other ∙ (and_parts (is_held_character c) true all.1).0))

-- all stops decide alike

named-stop : (exact v : Bool) (held : List ℕ) (c d : ℕ) (found : Option NamedReference) → IsStop c → IsStop d → named_reference exact v held (Some c) found ≡ named_reference exact v held (Some d) found
unfolding named_reference no_name
named-stop exact v [] c d None f g = refl
named-stop exact v (e ∷ held) c d None f g = rw ((stop-parts c f).2, (stop-parts d g).2) refl
named-stop exact v held c d (Some entry) f g =
    rw (same (drop (length entry.name) held)) refl
  where
    same : (rest : List ℕ) → goes_on (first_or rest (Some c)) ≡ goes_on (first_or rest (Some d))
    same [] = rw (f.no_equals, g.no_equals, (stop-parts c f).0, (stop-parts d g).0) refl
    same (x ∷ rest) = refl

number-stop : (exact : Bool) (held : List ℕ) (c d : ℕ) → IsStop c → IsStop d → number_reference exact held (Some c) ≡ number_reference exact held (Some d)
unfolding number_reference unended_number without_digits
number-stop exact [] c d f g = rw ((stop-parts c f).2, (stop-parts d g).2) refl
number-stop exact (x ∷ held) c d f g = rw ((stop-parts c f).2, (stop-parts d g).2) refl

reference-stop : (rules : Rules) (v : Bool) (held : List ℕ) (c d : ℕ) → IsStop c → IsStop d → reference rules v held (Some c) ≡ reference rules v held (Some d)
unfolding reference
reference-stop rules v [] c d f g = refl
reference-stop rules v (e ∷ held) c d f g =
    ap (λ n. if e == number_sign then n else named_reference rules.exact v (e ∷ held) (Some c) (longest_name rules.references (e ∷ held))) (number-stop rules.exact held c d f g)
    ∙ ap (λ n. if e == number_sign then number_reference rules.exact held (Some d) else n) (named-stop rules.exact v (e ∷ held) c d (longest_name rules.references (e ∷ held)) f g)

module _ (references : List NamedReference) (plain : All (λ entry. IsTrue (is_plain_name entry.name)) references) (c d : ℕ) (more : List ℕ) (f : IsStop c) (g : IsStop d) where
  abbrev after_c : List ℕ → List ℕ → List ℕ
  after_c held F = after_while (is_undecided references) held (F ++ c ∷ more)

  abbrev after_d : List ℕ → List ℕ → List ℕ
  after_d held F = after_while (is_undecided references) held (F ++ d ∷ [])

  record Within (held F : List ℕ) : Type 0 where
    run : run_while (is_undecided references) held (F ++ c ∷ more) ≡ run_while (is_undecided references) held (F ++ d ∷ [])
    next : first_or (after_c held F) None ≡ first_or (after_d held F) None
    some : is_none (first_or (after_c held F) None) ≡ false

  record AtEnd (held F : List ℕ) : Type 0 where
    run_c : run_while (is_undecided references) held (F ++ c ∷ more) ≡ F
    run_d : run_while (is_undecided references) held (F ++ d ∷ []) ≡ F
    next_c : first_or (after_c held F) None ≡ Some c
    next_d : first_or (after_d held F) None ≡ Some d

  -- a text decides a reference, or ends before that
  ends : (held F : List ℕ) → Within held F ⊎ AtEnd held F
  unfolding run_while after_while
  ends held [] =
      let e : is_undecided references (held ++ c ∷ []) ≡ false = stop-decides references held c plain f in
      let h : is_undecided references (held ++ d ∷ []) ≡ false = stop-decides references held d plain g in
      inr (record { run_c = rw e refl; run_d = rw h refl; next_c = rw e refl; next_d = rw h refl })
  ends held (x ∷ F) = at (is_undecided references (held ++ x ∷ [])) refl (ends (held ++ x ∷ []) F)
    where
      at : (b : Bool) → is_undecided references (held ++ x ∷ []) ≡ b → Within (held ++ x ∷ []) F ⊎ AtEnd (held ++ x ∷ []) F → Within held (x ∷ F) ⊎ AtEnd held (x ∷ F)
      at true e (inl w) = inl (record { run = rw e (ap (λ l. x ∷ l) w.run); next = rw e w.next; some = rw e w.some })
      at true e (inr w) = inr (record { run_c = rw e (ap (λ l. x ∷ l) w.run_c); run_d = rw e (ap (λ l. x ∷ l) w.run_d); next_c = rw e w.next_c; next_d = rw e w.next_d })
      at false e w = inl (record { run = rw e refl; next = rw e refl; some = rw e refl })

  pub some-decides : (F : List ℕ) → is_none (deciding_in references (F ++ c ∷ more)) ≡ false
  some-decides F = by (ends [] F)
    where
      by : Within [] F ⊎ AtEnd [] F → is_none (deciding_in references (F ++ c ∷ more)) ≡ false
      by (inl w) = w.some
      by (inr w) = ap is_none w.next_c

-- so the same is found before each
pub found-stop : (rules : Rules) (v : Bool) (F : List ℕ) (c d : ℕ) (more : List ℕ) → All (λ entry. IsTrue (is_plain_name entry.name)) rules.references → IsStop c → IsStop d
    → found_in rules v (F ++ c ∷ more) ≡ found_in rules v (F ++ d ∷ [])
found-stop rules v F c d more plain f g = by (ends rules.references plain c d more f g [] F)
  where
    by : Within rules.references plain c d more f g [] F ⊎ AtEnd rules.references plain c d more f g [] F → found_in rules v (F ++ c ∷ more) ≡ found_in rules v (F ++ d ∷ [])
    by (inl w) = ap (λ r. reference rules v r (deciding_in rules.references (F ++ c ∷ more))) w.run ∙ ap (reference rules v (held_in rules.references (F ++ d ∷ []))) w.next
    by (inr w) =
        ap (λ r. reference rules v r (deciding_in rules.references (F ++ c ∷ more))) w.run_c ∙ ap (reference rules v F) w.next_c
        ∙ reference-stop rules v F c d f g
        ∙ sym (ap (λ r. reference rules v r (deciding_in rules.references (F ++ d ∷ []))) w.run_d ∙ ap (reference rules v F) w.next_d)

-- what is all held stops before it
pub taken-before : (n : ℕ) (run : List ℕ) (c : ℕ) (more : List ℕ) → list_all is_held_character (take n (run ++ c ∷ more)) ≡ true → is_held_character c ≡ false → n ≤ length run
taken-before zero run c more h stop = omega arith
taken-before (suc n) [] c more h stop = absurd (false≢true (sym stop ∙ (and_parts (is_held_character c) _ h).0))
taken-before (suc n) (d ∷ run) c more h stop =
    let less : n ≤ length run = taken-before n run c more (and_parts (is_held_character d) _ h).1 stop in
    omega (arith, less)
