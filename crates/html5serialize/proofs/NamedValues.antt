-- A serialized value, by number or by names of the table, is read as that value.
use Rattle.std.proofs.Common.{◌≡◌, ℕ, zero, true, false, List, [], ◌∷◌, ◌++◌, length, Option, None, refl, ap, sym, ◌∙◌, subst}
use Rattle.std.specs.Prelude.{codes, flat_map, encode_utf8_all}
use Rattle.std.specs.List.{list_all}
use Rattle.std.proofs.lemmas.Bool.{and_parts}
use Rattle.std.proofs.lemmas.List.{append_assoc, append-nil}
use Rattle.std.proofs.lemmas.List.Folds.{list_all-append}
use Rattle.html5ever_interface.specs.declared.states.AttrValueKind.TheVariants.{DoubleQuoted}
use Rattle.html5reading.specs.Characters.{number_sign, ampersand, quotation_mark, less_than, greater_than, value_bytes, is_bad_character, is_no_character}
use Rattle.html5reading.specs.Reference.{Found, characters_in, longest_name, named_reference, reference, is_undecided, is_number, number_reference, has_digits, number_value, unended_number, is_invalid_number, character_of_number}
use Rattle.html5reading.specs.Slice.{run_while, after_while}
use Rattle.html5reading.specs.Start.{Rules}
use Rattle.html5reading.proofs.Letters.{is_not}
use Rattle.html5reading.proofs.TableNames.{is_name_character, named_alone, longest-found, plain-entry}
use Rattle.html5grammar.specs.Tag.{decoded, deciding_in, found_in, found_in_value, is_in_value, shown_run}
use Rattle.html5grammar.proofs.Reference.Reading.{Holds, Holds-name}
use Rattle.html5serialize.specs.Escapes.{Reads, named_value, no_break_space, value_by, value_text_by}
use Rattle.html5serialize.specs.declared.escaping.Escapes.{Escapes}
use Rattle.html5serialize.specs.declared.escaping.Escapes.TheVariants.{Numbers, Names}
use Rattle.html5serialize.proofs.Named.{IsName, AreNames, are-names, each_value}
use Rattle.html5write.specs.Escaped.{escaped, reference_of}
use Rattle.html5write.specs.Pieces.{has_no_null}
use Rattle.html5write.specs.Told.{has_no_return}
use Rattle.html5write.proofs.Characters.{IsPlain, each_character, escaped-plain}
use Rattle.html5write.proofs.Values.{in_value-text, no_return-append, no_return-text, shown-value, shows-value}
use Rattle.markup5ever.specs.C1.{character_of_c1}
use Rattle.markup5ever.specs.NamedReferences.{NamedReference, IsTable, is_plain_name}

-- ---- the held text of a name before more text

run-held : (references : List NamedReference) (held name more : List ℕ) → Holds references held name → ((d : ℕ) → is_undecided references ((held ++ name) ++ d ∷ []) ≡ false)
    → run_while (is_undecided references) held (name ++ more) ≡ name
unfolding run_while Holds
run-held references held [] [] holds decided = refl
run-held references held [] (d ∷ more) holds decided =
    let ends : is_undecided references (held ++ d ∷ []) ≡ false = ap (λ l. is_undecided references (l ++ d ∷ [])) (sym (append-nil held)) ∙ decided d in
    rw ends refl
run-held references held (c ∷ name) more holds decided =
    rw (holds.1)
    (ap (λ l. c ∷ l)
    (run-held references (held ++ c ∷ []) name more holds.2 (λ d. ap (λ l. is_undecided references (l ++ d ∷ [])) (append_assoc held (c ∷ []) name) ∙ decided d)))

-- ---- what it comes to in a value

abbrev found_name : List ℕ → ℕ → Found
found_name name c = record { taken = length name; errors = []; first = c; more = [] }

module _ (rules : Rules) where
  longest-named : (name : List ℕ) (c : ℕ) (next : Option ℕ) → IsName rules.references name c
      → named_reference rules.exact true name next (longest_name rules.references name) ≡ found_name name c
  unfolding named_reference
  longest-named name c next n =
      let found = longest-found rules.references name c None n.has in
      rw (found.is, found.name_is, found.first_is, found.second_is, n.ended) refl

  named-in_value : (name : List ℕ) (c : ℕ) (next : Option ℕ) → is_plain_name name ≡ true → IsName rules.references name c → reference rules true name next ≡ found_name name c
  unfolding reference is_plain_name is_name_character
  named-in_value [] c next plain n = absurd cc
  named-in_value (a ∷ name) c next plain n =
      let p = and_parts (is_name_character a) (list_all is_name_character name) (named_alone (a ∷ name) plain) in
      rw (is_not is_name_character a number_sign refl p.0) (longest-named (a ∷ name) c next n)

  found-name : IsTable rules.references → (name : List ℕ) (c : ℕ) (more : List ℕ) → IsName rules.references name c → found_in_value rules DoubleQuoted (name ++ more) ≡ found_name name c
  found-name table name c more n =
      let plain : is_plain_name name ≡ true = plain-entry rules.references name (c, None) table.plain n.has in
      let rest : List ℕ = more ++ quotation_mark ∷ [] in
      let held : run_while (is_undecided rules.references) [] (name ++ rest) ≡ name =
      run-held rules.references [] name rest (Holds-name rules.references [] name (c, None) n.has refl (named_alone name plain)) n.decided in
      ap (λ l. found_in rules true l) (append_assoc name more (quotation_mark ∷ []))
      ∙ ap (λ l. reference rules true l (deciding_in rules.references (name ++ rest))) held
      ∙ named-in_value name c (deciding_in rules.references (name ++ rest)) plain n

  -- ---- what a character of a value shows

  abbrev Decodes : ℕ → List ℕ → Type 0
  Decodes c text = (more : List ℕ) → decoded rules DoubleQuoted zero (text ++ more) ≡ c ∷ decoded rules DoubleQuoted zero more

  decodes-past : (name more : List ℕ) → decoded rules DoubleQuoted (length name) (name ++ more) ≡ decoded rules DoubleQuoted zero more
  unfolding decoded
  decodes-past [] more = refl
  decodes-past (c ∷ name) more = decodes-past name more

  decodes-name : IsTable rules.references → (name : List ℕ) (c : ℕ) → IsName rules.references name c → Decodes c (ampersand ∷ name)
  unfolding decoded
  decodes-name table name c n more =
      ap (λ (f : Found). characters_in f ++ decoded rules DoubleQuoted f.taken (name ++ more)) (found-name table name c more n)
      ∙ ap (λ l. c ∷ l) (decodes-past name more)

  decodes-plain : (c : ℕ) → IsPlain c → Decodes c (escaped c)
  unfolding decoded
  decodes-plain c p more = rw (escaped-plain c p) (rw p.no_ampersand refl)

  decodes-number : (c : ℕ) → Decodes c (escaped c)
  unfolding decoded escaped reference_of run_while after_while is_undecided is_number reference number_reference has_digits number_value unended_number is_invalid_number character_of_number is_bad_character is_no_character character_of_c1
  decodes-number c = each_character (λ d. Decodes d (escaped d)) (λ more. refl) (λ more. refl) (λ more. refl) (λ more. refl) (λ more. refl) (λ more. refl) decodes-plain c

  decodes-named : IsTable rules.references → AreNames rules.references → (c : ℕ) → Decodes c (named_value c)
  decodes-named table names c =
      each_value Decodes
      (decodes-name table (codes "amp;") ampersand names.amp)
      (decodes-name table (codes "nbsp;") no_break_space names.nbsp)
      (decodes-name table (codes "lt;") less_than names.lt)
      (decodes-name table (codes "gt;") greater_than names.gt)
      (decodes-name table (codes "quot;") quotation_mark names.quot)
      decodes-number c

  decodes-names : IsTable rules.references → AreNames rules.references → (value : List ℕ) → decoded rules DoubleQuoted zero (value_text_by Names value) ≡ value
  unfolding decoded
  decodes-names table names [] = refl
  decodes-names table names (c ∷ value) = decodes-named table names c (value_text_by Names value) ∙ ap (λ l. c ∷ l) (decodes-names table names value)

  -- values are shown as they are
  abbrev pub ShowsValues : Escapes → Type 0
  ShowsValues escapes = (value : List ℕ) → has_no_null value ≡ true → shown_run rules DoubleQuoted (value_text_by escapes value) ≡ encode_utf8_all value

  pub shows-numbers : ShowsValues Numbers
  shows-numbers value h = shown-value rules value h

  pub shows-values : (escapes : Escapes) → IsTable rules.references → Reads escapes rules.references → ShowsValues escapes
  shows-values Numbers table reads value h = shows-numbers value h
  shows-values Names table reads value h =
      ap (flat_map value_bytes) (decodes-names table (are-names rules.references table reads) value) ∙ shows-value value h

-- ---- which characters stand in a value

abbrev InValue : List ℕ → Type 0
InValue text = list_all (is_in_value DoubleQuoted) text ≡ true

in_value-number : (c : ℕ) → InValue (escaped c)
in_value-number c = subst InValue (append-nil (escaped c)) (in_value-text (c ∷ []))

in_value-character : (escapes : Escapes) (c : ℕ) → InValue (value_by escapes c)
unfolding is_in_value
in_value-character Numbers c = in_value-number c
in_value-character Names c = each_value (λ d text. InValue text) refl refl refl refl refl in_value-number c

pub in_value-text_by : (escapes : Escapes) (value : List ℕ) → InValue (value_text_by escapes value)
in_value-text_by escapes [] = refl
in_value-text_by escapes (c ∷ value) =
    list_all-append (is_in_value DoubleQuoted) (value_by escapes c) (value_text_by escapes value) ∙ rw (in_value-character escapes c, in_value-text_by escapes value) refl

-- and no CR

no_return-number : (c : ℕ) → has_no_return (escaped c) ≡ true
no_return-number c = subst (λ l. has_no_return l ≡ true) (append-nil (escaped c)) (no_return-text (c ∷ []))

no_return-character : (escapes : Escapes) (c : ℕ) → has_no_return (value_by escapes c) ≡ true
no_return-character Numbers c = no_return-number c
no_return-character Names c = each_value (λ d text. has_no_return text ≡ true) refl refl refl refl refl no_return-number c

pub no_return-text_by : (escapes : Escapes) (value : List ℕ) → has_no_return (value_text_by escapes value) ≡ true
no_return-text_by escapes [] = refl
no_return-text_by escapes (c ∷ value) = no_return-append (value_by escapes c) (value_text_by escapes value) (no_return-character escapes c) (no_return-text_by escapes value)
