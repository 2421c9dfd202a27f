-- A reference within a text: the text after it decides it, and is then read anew.
use Rattle.std.proofs.Common.{◌≡◌, ℕ, Bool, true, false, List, [], ◌∷◌, ◌++◌, drop, length, Option, None, Some, refl, ap, sym, ◌∙◌, subst, arith}
use Rattle.std.specs.Prelude.{suc, ◌+◌, not, nat_eq, ◌==◌, codes}
use Rattle.std.specs.List.{list_all}
use Rattle.std.proofs.Math.Bool.{and-false}
use Rattle.std.proofs.Math.ListN.{drop_of_length-le}
use Rattle.std.proofs.lemmas.Bool.{and_parts, not-true}
use Rattle.std.proofs.lemmas.List.{append-nil}
use Rattle.html5ever_interface.specs.Sink.{Means, stepped, on_line}
use Rattle.html5ever_interface.specs.Token.Told.{Error}
use Rattle.html5grammar.specs.Anywhere.{TellsBefore, TellsByItself, start_beyond, is_decided_by, errors_within, told_within, messages_within}
use Rattle.html5reading.specs.Characters.{number_sign, ampersand, semicolon}
use Rattle.html5reading.specs.ErrorText.{where_true}
use Rattle.html5reading.specs.NormalisedText.{normalised, line_after, input_after}
use Rattle.html5grammar.specs.Reference.{WrittenReference, x_text, written, is_base, is_base_digit, value_of, reference_errors, reference_characters, has_references, IsReference}
use Rattle.html5grammar.specs.Reference.WrittenReference.{Ampersand, Number, Named}
use Rattle.html5reading.specs.Reference.{Found, is_undecided, has_digits, semicolon_len, is_invalid_number, invalid_number, character_of_number, unended_number, reference, ends_number, is_ended}
use Rattle.html5reading.specs.Start.{Start, Mode, Rules}
use Rattle.html5reading.specs.Start.Stand.{InText}
use Rattle.html5reading.specs.Start.Open.{Between, InReference}
use Rattle.html5grammar.proofs.ByItself.{trace-by_itself, trace-before}
use Rattle.html5reading.proofs.InputLemmas.{line_past, normalised-append, input_after-line_none, line_after-past, line_after-last, line_after-lines_past}
use Rattle.html5reading.specs.Machine.{brought_at, reference_step}
use Rattle.html5grammar.proofs.Reference.Reading.{Holds, Holds-number, Holds-name, is_number-ended, has_digits-written, tokens_in, tokens-taken, found_number, number-found, number-taken, found_entry, entry_errors, name-found, trace-run, trace-ended}
use Rattle.html5reading.proofs.Letters.{is_not}
use Rattle.html5reading.proofs.TableNames.{is_name_character, named_alone, plain-entry}
use Rattle.html5reading.proofs.Traces.{trace, trace_brought, with_messages}
use Rattle.markup5ever.specs.NamedReferences.{IsTable, is_plain_name}

-- a name begins with no `#`, so no semicolon ends it as one ends a number
name-no_number : (name : List ℕ) (c : ℕ) → list_all is_name_character name ≡ true → ends_number name c ≡ false
unfolding ends_number is_name_character
name-no_number [] c all = refl
name-no_number (d ∷ name) c all =
    let p = and_parts (is_name_character d) (list_all is_name_character name) all in
    rw (is_not is_name_character d number_sign refl p.0) refl

-- nor does another character end a number so
unended : (held : List ℕ) (c : ℕ) → (c == semicolon) ≡ false → ends_number (number_sign ∷ held) c ≡ false
unfolding ends_number
unended held c e = rw (e, and-false (has_digits held)) refl

-- its semicolon is missing where another character follows
abbrev found_unended : Bool → Option ℕ → List ℕ → Found
found_unended exact x digits = record {
  taken = suc (length (x_text x ++ digits)) + semicolon_len None;
  errors =
      Error (codes "Semicolon missing after numeric character reference")
      ∷ where_true (is_invalid_number (value_of x digits)) (Error (invalid_number exact (value_of x digits)));
  first = character_of_number (value_of x digits);
  more = [];
}

found-unended : (exact : Bool) (x : Option ℕ) (digits : List ℕ) (c : ℕ) → (c == semicolon) ≡ false → found_number exact x digits (Some c) ≡ found_unended exact x digits
unfolding unended_number
found-unended exact x digits c e = rw e refl

module _ {X S H : Type 0} (means : Means X S H) (rules : Rules) where
  -- the character that decides a reference is read as after it
  trace-decided : (mode : Mode) (s : S) (line : ℕ) (last held : List ℕ) (c : ℕ) (more : List ℕ) (found : Found)
      → is_undecided rules.references (held ++ c ∷ []) ≡ false → ends_number held c ≡ false
      → reference rules false held (Some c) ≡ found → drop found.taken held ≡ []
      → trace means.step means.reply means.foreign rules s line last (InReference (InText mode) held) (c ∷ more)
      ≡ with_messages (on_line line (tokens_in found)) (trace means.step means.reply means.foreign rules (stepped means.step s (on_line line (tokens_in found))) line last (Between mode) (c ∷ more))
  unfolding trace trace_brought brought_at reference_step stepped
  trace-decided mode s line last held c more found decides ends is taken =
      rw (decides, ends, is, tokens-taken mode found held taken) refl

  -- what was held is decided by the first character after it
  before-held : (mode : Mode) (Z : List ℕ) (K : Start) (s : S) (Y run : List ℕ) (c : ℕ) (more : List ℕ) (found : Found)
      → has_references mode ≡ true → K.opened ≡ Between mode → normalised K.input Y ≡ ampersand ∷ run → normalised (input_after K.input Y) Z ≡ c ∷ more → Holds rules.references [] run
      → is_undecided rules.references (run ++ c ∷ []) ≡ false → ends_number run c ≡ false
      → reference rules false run (Some c) ≡ found → drop found.taken run ≡ []
      → TellsBefore means rules Z K s Y (on_line (line_after K.input (ampersand ∷ run)) (tokens_in found)) (start_beyond K Y (Between mode) K.last_start_tag)
  before-held mode Z K s Y run c more found has starts text next holds decides ends is taken =
      let line : ℕ = line_after K.input (ampersand ∷ run) in
      let same : line_after (input_after K.input Y) [] ≡ line =
      input_after-line_none K.input Y ∙ sym (line_after-lines_past K.input [] (normalised K.input Y)) ∙ ap (line_after K.input) text in
      trace-before means rules Z K s Y (on_line line (tokens_in found)) (Between mode)
      (trace-run means.step means.reply means.foreign rules mode K s (Y ++ Z) run (c ∷ more) has starts (normalised-append K.input Y Z ∙ ap (λ l. l ++ normalised (input_after K.input Y) Z) text ∙ ap (λ l. (ampersand ∷ run) ++ l) next) holds
      ∙ trace-decided mode s line K.last_start_tag run c more found decides ends is taken
      ∙ rw (same, next) refl)

  -- a number that has its semicolon is decided
  pub number-by_itself : (K : Start) (s : S) (Y : List ℕ) (x : Option ℕ) (digits : List ℕ) → (one : IsReference rules.references K Y (Number x digits true))
      → TellsByItself means rules K s Y (messages_within rules.exact K.input (Number x digits true)) (start_beyond K Y (Between one.mode) K.last_start_tag)
  unfolding written errors_within reference_characters reference is_undecided ends_number unended_number line_past
  number-by_itself K s Y x digits one =
      let p = and_parts (is_base x) _ one.is_reference in
      let q = and_parts (not (nat_eq (length digits) 0)) (list_all (is_base_digit x) digits) p.1 in
      let held : List ℕ = number_sign ∷ (x_text x ++ digits) in
      let found : Found = found_number rules.exact x digits (Some semicolon) in
      let line : ℕ = line_after K.input (ampersand ∷ held) in
      let last : line_after K.input ((ampersand ∷ held) ++ semicolon ∷ []) ≡ line =
      line_after-past K.input (ampersand ∷ held) semicolon ∙ line_after-last K.input (ampersand ∷ held) in
      trace-by_itself means rules K s Y (messages_within rules.exact K.input (Number x digits true)) (Between one.mode) K.last_start_tag
      (trace-run means.step means.reply means.foreign rules one.mode K s Y held (semicolon ∷ []) one.has one.starts one.text (Holds-number rules.references x digits p.0 q.1)
      ∙ trace-ended means.step means.reply means.foreign rules one.mode s line K.last_start_tag held found (is_number-ended x digits p.0 q.0 q.1) (rw (has_digits-written x digits p.0 q.0 q.1) refl)
      (number-found rules.exact x digits (Some semicolon) p.0 q.0 q.1) (number-taken x digits (Some semicolon))
      ∙ ap (λ n. record { messages = on_line n (tokens_in found); opened = Between one.mode; last_start_tag = K.last_start_tag }) (sym last))

  -- a reference before a character that decides it tells what it comes to
  pub reference-before : (Z : List ℕ) (K : Start) (s : S) (Y : List ℕ) (written_as : WrittenReference) (c : ℕ) (more : List ℕ) → IsTable rules.references → (one : IsReference rules.references K Y written_as)
      → normalised (input_after K.input Y) Z ≡ c ∷ more → is_decided_by rules.references written_as c ≡ true
      → TellsBefore means rules Z K s Y (messages_within rules.exact K.input written_as) (start_beyond K Y (Between one.mode) K.last_start_tag)
  unfolding written errors_within reference_errors reference_characters reference is_decided_by unended_number Holds ends_number
  reference-before Z K s Y Ampersand c more table one next decides =
      before-held one.mode Z K s Y [] c more (record { taken = 0; errors = []; first = ampersand; more = [] }) one.has one.starts one.text next tt (not-true (is_undecided rules.references (c ∷ [])) decides) refl refl refl
  reference-before Z K s Y (Number x digits true) c more table one next decides = number-by_itself K s Y x digits one Z
  reference-before Z K s Y (Number x digits false) c more table one next decides =
      let p = and_parts (is_base x) _ one.is_reference in
      let q = and_parts (not (nat_eq (length digits) 0)) (list_all (is_base_digit x) digits) p.1 in
      let held : List ℕ = number_sign ∷ (x_text x ++ digits) in
      let d = and_parts (not (is_undecided rules.references (held ++ c ∷ []))) (not (c == semicolon)) decides in
      let other : (c == semicolon) ≡ false = not-true (c == semicolon) d.1 in
      subst (λ l. TellsBefore means rules Z K s Y (on_line (line_after K.input l) (told_within rules.exact (Number x digits false))) (start_beyond K Y (Between one.mode) K.last_start_tag))
      (sym (append-nil (ampersand ∷ held)))
      (before-held one.mode Z K s Y held c more (found_unended rules.exact x digits) one.has one.starts (one.text ∙ append-nil (ampersand ∷ held)) next (Holds-number rules.references x digits p.0 q.1)
      (not-true (is_undecided rules.references (held ++ c ∷ [])) d.0) (unended (x_text x ++ digits) c other)
      (number-found rules.exact x digits (Some c) p.0 q.0 q.1 ∙ found-unended rules.exact x digits c other) (number-taken x digits None))
  reference-before Z K s Y (Named entry) c more table one next decides =
      let plain : is_plain_name entry.name ≡ true = plain-entry rules.references entry.name (entry.first, entry.second) table.plain one.is_reference in
      before-held one.mode Z K s Y entry.name c more (found_entry entry (entry_errors (is_ended entry.name))) one.has one.starts one.text next
      (Holds-name rules.references [] entry.name (entry.first, entry.second) one.is_reference refl (named_alone entry.name plain))
      (not-true (is_undecided rules.references (entry.name ++ c ∷ [])) decides) (name-no_number entry.name c (named_alone entry.name plain))
      (name-found rules entry.name entry (Some c) refl plain one.is_reference) (drop_of_length-le entry.name (omega arith))
