-- A written value is read as that value.
use Rattle.std.proofs.Common.{◌≡◌, ℕ, zero, true, false, List, [], ◌∷◌, ◌++◌, refl, ap, ◌∙◌}
use Rattle.std.specs.Prelude.{◌==◌, not, flat_map, encode_utf8, encode_utf8_all}
use Rattle.std.specs.List.{list_all}
use Rattle.std.proofs.lemmas.Bool.{and_parts, not-true}
use Rattle.std.proofs.lemmas.List.Folds.{list_all-append}
use Rattle.html5ever_interface.specs.declared.states.AttrValueKind.TheVariants.{DoubleQuoted}
use Rattle.html5reading.specs.Characters.{null, carriage_return, is_bad_character, is_no_character, value_bytes, shown}
use Rattle.html5reading.specs.Reference.{is_undecided, is_number, reference, number_reference, has_digits, number_value, unended_number, is_invalid_number, character_of_number}
use Rattle.html5reading.specs.Slice.{run_while, after_while}
use Rattle.html5reading.specs.Start.{Rules}
use Rattle.html5grammar.specs.Tag.{decoded, is_in_value, shown_run, spell_run}
use Rattle.markup5ever.specs.C1.{character_of_c1}
use Rattle.html5write.specs.Escaped.{reference_of, escaped, escaped_text}
use Rattle.html5write.specs.Pieces.{has_no_null}
use Rattle.html5write.specs.Told.{has_no_return, spell_escaped}
use Rattle.html5write.proofs.Characters.{IsPlain, each_character, escaped-plain}

-- a value without NUL is shown as it is
pub shows-value : (value : List ℕ) → has_no_null value ≡ true → flat_map value_bytes value ≡ encode_utf8_all value
unfolding value_bytes shown
shows-value [] h = refl
shows-value (c ∷ value) h =
    let p = and_parts (not (c == null)) (has_no_null value) h in
    rw (not-true (c == null) p.0) (ap (λ l. encode_utf8 c ++ l) (shows-value value p.1))

module _ (rules : Rules) where
  -- ---- what a character of a value tells

  abbrev SpellsItself : ℕ → Type 0
  SpellsItself c = (more : List ℕ) → (c == null) ≡ false
      → spell_run rules DoubleQuoted zero (escaped c ++ more) ≡ spell_escaped rules.exact c ++ spell_run rules DoubleQuoted zero more

  spells-references : SpellsItself 0x26 × SpellsItself 0x3C × SpellsItself 0x3E × SpellsItself 0x22 × SpellsItself 0x0D × SpellsItself 0xFEFF
  unfolding spell_run spell_escaped escaped reference_of run_while after_while is_undecided is_number reference number_reference has_digits number_value unended_number is_invalid_number character_of_number is_bad_character is_no_character character_of_c1
  spells-references = (λ more no_null. refl, λ more no_null. refl, λ more no_null. refl, λ more no_null. refl, λ more no_null. refl, λ more no_null. refl)

  spells-plain : (c : ℕ) → IsPlain c → SpellsItself c
  unfolding spell_run spell_escaped
  spells-plain c p more no_null = rw (escaped-plain c p) (rw (p.no_ampersand, no_null, p.no_return) refl)

  spells-character : (c : ℕ) → SpellsItself c
  spells-character c =
      let r = spells-references in
      each_character SpellsItself r.0 r.1 r.2 r.3 r.4 r.5 spells-plain c

  pub spells-value : (value : List ℕ) → has_no_null value ≡ true → spell_run rules DoubleQuoted zero (escaped_text value) ≡ flat_map (spell_escaped rules.exact) value
  unfolding spell_run
  spells-value [] h = refl
  spells-value (c ∷ value) h =
      let p = and_parts (not (c == null)) (has_no_null value) h in
      spells-character c (escaped_text value) (not-true (c == null) p.0) ∙ ap (λ l. spell_escaped rules.exact c ++ l) (spells-value value p.1)

  -- ---- what it shows

  abbrev DecodesToItself : ℕ → Type 0
  DecodesToItself c = (more : List ℕ) → decoded rules DoubleQuoted zero (escaped c ++ more) ≡ c ∷ decoded rules DoubleQuoted zero more

  decodes-references : DecodesToItself 0x26 × DecodesToItself 0x3C × DecodesToItself 0x3E × DecodesToItself 0x22 × DecodesToItself 0x0D × DecodesToItself 0xFEFF
  unfolding decoded escaped reference_of run_while after_while is_undecided is_number reference number_reference has_digits number_value unended_number is_invalid_number character_of_number is_bad_character is_no_character character_of_c1
  decodes-references = (λ more. refl, λ more. refl, λ more. refl, λ more. refl, λ more. refl, λ more. refl)

  decodes-plain : (c : ℕ) → IsPlain c → DecodesToItself c
  unfolding decoded
  decodes-plain c p more = rw (escaped-plain c p) (rw p.no_ampersand refl)

  decodes-character : (c : ℕ) → DecodesToItself c
  decodes-character c =
      let r = decodes-references in
      each_character DecodesToItself r.0 r.1 r.2 r.3 r.4 r.5 decodes-plain c

  decodes-value : (value : List ℕ) → decoded rules DoubleQuoted zero (escaped_text value) ≡ value
  unfolding decoded
  decodes-value [] = refl
  decodes-value (c ∷ value) = decodes-character c (escaped_text value) ∙ ap (λ l. c ∷ l) (decodes-value value)

  pub shown-value : (value : List ℕ) → has_no_null value ≡ true → shown_run rules DoubleQuoted (escaped_text value) ≡ encode_utf8_all value
  shown-value value h = ap (flat_map value_bytes) (decodes-value value) ∙ shows-value value h

-- ---- which characters stand in it

abbrev InValue : ℕ → Type 0
InValue c = list_all (is_in_value DoubleQuoted) (escaped c) ≡ true

in_value-plain : (c : ℕ) → IsPlain c → InValue c
unfolding is_in_value
in_value-plain c p = rw (escaped-plain c p) (rw p.no_quote refl)

in_value-character : (c : ℕ) → InValue c
unfolding is_in_value escaped reference_of
in_value-character c = each_character InValue refl refl refl refl refl refl in_value-plain c

pub in_value-text : (value : List ℕ) → list_all (is_in_value DoubleQuoted) (escaped_text value) ≡ true
in_value-text [] = refl
in_value-text (c ∷ value) =
    list_all-append (is_in_value DoubleQuoted) (escaped c) (escaped_text value) ∙ rw (in_value-character c, in_value-text value) refl

-- and no CR

no_return-plain : (c : ℕ) → IsPlain c → has_no_return (escaped c) ≡ true
no_return-plain c p = rw (escaped-plain c p) (rw p.no_return refl)

no_return-character : (c : ℕ) → has_no_return (escaped c) ≡ true
unfolding escaped reference_of
no_return-character c = each_character (λ d. has_no_return (escaped d) ≡ true) refl refl refl refl refl refl no_return-plain c

pub no_return-append : (xs ys : List ℕ) → has_no_return xs ≡ true → has_no_return ys ≡ true → has_no_return (xs ++ ys) ≡ true
no_return-append xs ys f g = list_all-append (λ c. not (c == carriage_return)) xs ys ∙ rw (f, g) refl

pub no_return-text : (value : List ℕ) → has_no_return (escaped_text value) ≡ true
no_return-text [] = refl
no_return-text (c ∷ value) = no_return-append (escaped c) (escaped_text value) (no_return-character c) (no_return-text value)
