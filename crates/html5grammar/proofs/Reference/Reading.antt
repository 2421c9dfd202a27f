-- A text that is one reference tells the reference's tokens.
use Rattle.std.proofs.Common.{◌≡◌, ℕ, ◌+◌, ◌-◌, Bool, true, false, List, [], ◌∷◌, ◌++◌, drop, length, map, Option, None, Some, refl, ap, sym, ◌∙◌, subst, suc, arith, if◌then◌else◌}
use Rattle.std.specs.Prelude.{not, nat_eq, codes, encode_utf8}
use Rattle.std.specs.Char.{is_ascii_digit, is_ascii_hexdigit}
use Rattle.std.specs.List.{list_all}
use Rattle.std.proofs.Math.Bool.{and-false}
use Rattle.std.proofs.Math.ListN.{drop_of_length-le}
use Rattle.std.proofs.lemmas.Bool.{false≢true, and_parts}
use Rattle.std.proofs.lemmas.Bool.Decides.{nat_tests}
use Rattle.std.proofs.lemmas.List.{append-nil, append_assoc, map-append}
use Rattle.std.proofs.lemmas.List.Folds.{list_all-append}
use Rattle.html5ever_interface.specs.Sink.{stepped, on_line}
use Rattle.html5ever_interface.specs.Token.{Told, Reply}
use Rattle.html5ever_interface.specs.Token.Told.{Text, Error, End}
use Rattle.html5reading.specs.Characters.{number_sign, ampersand, semicolon, is_bad_character}
use Rattle.html5reading.specs.EndOfInput.{late_at_end_of, open_at_end_of, told_at_end_of, tokens_at_end, raw_end_error}
use Rattle.html5reading.specs.ErrorText.{where_true}
use Rattle.html5reading.specs.NormalisedText.{normalised, line_after}
use Rattle.html5grammar.specs.Reference.{WrittenReference, x_text, written, is_base, is_base_digit, value_of, reference_errors, reference_characters, reference_tokens, has_references, IsReference}
use Rattle.html5grammar.specs.Reference.WrittenReference.{Ampersand, Number, Named}
use Rattle.html5reading.specs.Reading.{reading, told, messages, after}
use Rattle.html5reading.specs.Reference.{Found, is_x, after_x, is_number, has_digits, number_value, unended_number, is_invalid_number, invalid_number, character_of_number, number_reference, longest_name, is_ended, second_of, named_reference, reference, semicolon_len, is_undecided, ends_number, characters_in, late_tokens, held_text}
use Rattle.html5reading.specs.Slice.{tokens_of_late}
use Rattle.html5reading.specs.Start.{Start, Mode, Open, Rules}
use Rattle.html5reading.specs.Start.Mode.{Data, Plain, RawText, Cdata}
use Rattle.html5reading.specs.Start.Raw.{Rcdata, Rawtext, ScriptData, Escaped, DoubleEscaped}
use Rattle.html5reading.specs.Start.Open.{Between, InReference}
use Rattle.html5reading.specs.Start.Stand.{InText}
use Rattle.html5reading.proofs.GoodCharacters.{good_between}
use Rattle.html5reading.proofs.InputLemmas.{line_past, lines_past, line_after-past, line_after-last, line_after-lines_past}
use Rattle.html5reading.specs.Machine.{step_at, data_step, raw_step, brought_at, reference_step}
use Rattle.html5reading.proofs.Letters.{is_not}
use Rattle.html5reading.proofs.ReadingLemmas.{told-trace, after-opened, reading-events, messages-at_end}
use Rattle.html5reading.proofs.Numbers.{is_number-cons}
use Rattle.html5reading.proofs.TableNames.{is_name_character, named_alone, begins-entry, plain-entry, longest-found}
use Rattle.html5reading.proofs.Traces.{Trace, trace, trace_brought, trace_here, messages-append}
use Rattle.markup5ever.specs.NamedReferences.{NamedReference, IsTable, begins_name, characters_of_name, is_plain_name}

-- ---- what holds in each mode with references

pub of_references : (P : Mode → Type 0) → P Data → ((name : List ℕ) → P (RawText Rcdata name)) → (mode : Mode) → has_references mode ≡ true → P mode
of_references P in_data in_rcdata Data has = in_data
of_references P in_data in_rcdata Plain has = absurd (false≢true has)
of_references P in_data in_rcdata Cdata has = absurd (false≢true has)
of_references P in_data in_rcdata (RawText Rcdata name) has = in_rcdata name
of_references P in_data in_rcdata (RawText Rawtext name) has = absurd (false≢true has)
of_references P in_data in_rcdata (RawText ScriptData name) has = absurd (false≢true has)
of_references P in_data in_rcdata (RawText (Escaped dashes) name) has = absurd (false≢true has)
of_references P in_data in_rcdata (RawText (DoubleEscaped dashes) name) has = absurd (false≢true has)

-- the end of input tells nothing else there
told_at_end-references : (exact : Bool) (mode : Mode) → has_references mode ≡ true → told_at_end_of exact (Between mode) ≡ End ∷ []
unfolding told_at_end_of raw_end_error
told_at_end-references exact mode has = of_references (λ mode. told_at_end_of exact (Between mode) ≡ End ∷ []) refl (λ name. refl) mode has

-- ---- characters of references

good-name : (c : ℕ) → is_name_character c ≡ true → is_bad_character c ≡ false
unfolding is_name_character
good-name c h = good_between c (grind (arith, nat_tests)) (grind (arith, nat_tests))

good-digit : (x : Option ℕ) (d : ℕ) → is_base_digit x d ≡ true → is_bad_character d ≡ false
good-digit None d h = good_between d (grind (arith, nat_tests)) (grind (arith, nat_tests))
good-digit (Some x) d h = good_between d (grind (arith, nat_tests)) (grind (arith, nat_tests))

good-x : (x : ℕ) → is_x x ≡ true → is_bad_character x ≡ false
good-x x h = good_between x (grind (arith, nat_tests)) (grind (arith, nat_tests))

digit-no_x : (d : ℕ) → is_ascii_digit d ≡ true → is_x d ≡ false
digit-no_x d h = grind (arith, nat_tests)

-- ---- a number as source text

after-written : (x : Option ℕ) (digits : List ℕ) → is_base x ≡ true → list_all (is_base_digit x) digits ≡ true → after_x (x_text x ++ digits) ≡ digits
after-written None [] base all = refl
after-written None (d ∷ digits) base all = rw (digit-no_x d (and_parts (is_ascii_digit d) (list_all is_ascii_digit digits) all).0) refl
after-written (Some x) digits base all = rw base refl

value-written : (x : Option ℕ) (digits : List ℕ) → is_base x ≡ true → list_all (is_base_digit x) digits ≡ true → number_value (x_text x ++ digits) ≡ value_of x digits
unfolding number_value
value-written None [] base all = refl
value-written None (d ∷ digits) base all = rw (digit-no_x d (and_parts (is_ascii_digit d) (list_all is_ascii_digit digits) all).0) refl
value-written (Some x) digits base all = rw base refl

is_number-written : (x : Option ℕ) (digits : List ℕ) → is_base x ≡ true → list_all (is_base_digit x) digits ≡ true → is_number (x_text x ++ digits) ≡ true
unfolding is_number
is_number-written None [] base all = refl
is_number-written None (d ∷ digits) base all =
    is_number-cons d digits ∙ rw (digit-no_x d (and_parts (is_ascii_digit d) (list_all is_ascii_digit digits) all).0) all
is_number-written (Some x) digits base all = is_number-cons x digits ∙ rw base all

-- a semicolon is no digit
pub is_number-ended : (x : Option ℕ) (digits : List ℕ) → is_base x ≡ true → not (nat_eq (length digits) 0) ≡ true → list_all (is_base_digit x) digits ≡ true
    → is_number ((x_text x ++ digits) ++ semicolon ∷ []) ≡ false
is_number-ended None [] base some all = absurd cc
is_number-ended None (d ∷ digits) base some all =
    is_number-cons d (digits ++ semicolon ∷ [])
    ∙ rw (digit-no_x d (and_parts (is_ascii_digit d) (list_all is_ascii_digit digits) all).0)
    (list_all-append is_ascii_digit (d ∷ digits) (semicolon ∷ []) ∙ and-false (list_all is_ascii_digit (d ∷ digits)))
is_number-ended (Some x) digits base some all =
    is_number-cons x (digits ++ semicolon ∷ [])
    ∙ rw base (list_all-append is_ascii_hexdigit digits (semicolon ∷ []) ∙ and-false (list_all is_ascii_hexdigit digits))

-- ---- the held text: each character leaves the reference undecided, and is not a bad one

unfoldable pub Holds : List NamedReference → List ℕ → List ℕ → Type 0
Holds references held [] = Unit {0}
Holds references held (c ∷ run) =
    (is_bad_character c ≡ false) × (is_undecided references (held ++ c ∷ []) ≡ true) × Holds references (held ++ c ∷ []) run

Holds-digits : (references : List NamedReference) (x : Option ℕ) (before digits : List ℕ) → is_base x ≡ true → list_all (is_base_digit x) before ≡ true → list_all (is_base_digit x) digits ≡ true
    → Holds references (number_sign ∷ (x_text x ++ before)) digits
unfolding Holds is_undecided
Holds-digits references x before [] base all more = tt
Holds-digits references x before (d ∷ digits) base all more =
    let p = and_parts (is_base_digit x d) (list_all (is_base_digit x) digits) more in
    let longer : list_all (is_base_digit x) (before ++ d ∷ []) ≡ true = list_all-append (is_base_digit x) before (d ∷ []) ∙ rw (all, p.0) refl in
    subst (λ held. (is_bad_character d ≡ false) × (is_undecided references (number_sign ∷ held) ≡ true) × Holds references (number_sign ∷ held) digits) (sym (append_assoc (x_text x) before (d ∷ [])))
    (good-digit x d p.0, is_number-written x (before ++ d ∷ []) base longer, Holds-digits references x (before ++ d ∷ []) digits base longer p.1)

pub Holds-number : (references : List NamedReference) (x : Option ℕ) (digits : List ℕ) → is_base x ≡ true → list_all (is_base_digit x) digits ≡ true
    → Holds references [] (number_sign ∷ (x_text x ++ digits))
unfolding Holds is_undecided is_bad_character is_number
Holds-number references None digits base all = (refl, refl, Holds-digits references None [] digits base refl all)
Holds-number references (Some x) digits base all =
    (refl, refl, (good-x x base, is_number-written (Some x) [] base refl, Holds-digits references (Some x) [] digits base refl all))

undecided-begun : (references : List NamedReference) (held : List ℕ) → list_all is_name_character held ≡ true → begins_name references held ≡ true → is_undecided references held ≡ true
unfolding is_undecided is_name_character
undecided-begun references [] all begins = refl
undecided-begun references (c ∷ held) all begins =
    let p = and_parts (is_name_character c) (list_all is_name_character held) all in
    rw (is_not is_name_character c number_sign refl p.0, begins) refl

pub Holds-name : (references : List NamedReference) (before name : List ℕ) (found : ℕ × Option ℕ) → characters_of_name references (before ++ name) ≡ Some found
    → list_all is_name_character before ≡ true → list_all is_name_character name ≡ true → Holds references before name
unfolding Holds
Holds-name references before [] found e all more = tt
Holds-name references before (c ∷ name) found e all more =
    let p = and_parts (is_name_character c) (list_all is_name_character name) more in
    let longer : list_all is_name_character (before ++ c ∷ []) ≡ true = list_all-append is_name_character before (c ∷ []) ∙ rw (all, p.0) refl in
    let same : characters_of_name references ((before ++ c ∷ []) ++ name) ≡ Some found = ap (characters_of_name references) (append_assoc before (c ∷ []) name) ∙ e in
    (good-name c p.0, undecided-begun references (before ++ c ∷ []) longer (begins-entry references (before ++ c ∷ []) name found same), Holds-name references (before ++ c ∷ []) name found same longer p.1)

-- ---- what the end tells where all is held, and all is taken

tokens-late : (back : ℕ) (tokens : List Told) → tokens_of_late (map (λ (token : Told). record { token = token; back = back; is_at = false; is_held = false }) tokens ++ []) ≡ tokens
tokens-late back [] = refl
tokens-late back (t ∷ tokens) = ap (λ l. t ∷ l) (tokens-late back tokens)

abbrev pub tokens_in : Found → List Told
tokens_in found = found.errors ++ map (λ c. Text (encode_utf8 c)) (characters_in found)

pub tokens-taken : (mode : Mode) (found : Found) (held : List ℕ) → drop found.taken held ≡ [] → tokens_of_late (late_tokens (InText mode) found held) ≡ tokens_in found
unfolding held_text
tokens-taken mode found held taken = rw taken (tokens-late (suc (length held) - found.taken) (tokens_in found))

end-found : (rules : Rules) (mode : Mode) (held : List ℕ) (found : Found) → has_references mode ≡ true → reference rules false held None ≡ found → drop found.taken held ≡ []
    → tokens_at_end rules (InReference (InText mode) held) ≡ tokens_in found ++ End ∷ []
unfolding late_at_end_of open_at_end_of
end-found rules mode held found has e taken = rw (e, told_at_end-references rules.exact mode has) (ap (λ l. l ++ End ∷ []) (tokens-taken mode found held taken))

-- ---- what a number comes to, and a name

pub has_digits-written : (x : Option ℕ) (digits : List ℕ) → is_base x ≡ true → not (nat_eq (length digits) 0) ≡ true → list_all (is_base_digit x) digits ≡ true
    → has_digits (x_text x ++ digits) ≡ true
unfolding has_digits
has_digits-written x digits base some all = rw (after-written x digits base all) some

-- the character after a number decides whether a semicolon is missing
abbrev pub found_number : Bool → Option ℕ → List ℕ → Option ℕ → Found
found_number exact x digits next = record {
  taken = suc (length (x_text x ++ digits)) + semicolon_len next;
  errors = unended_number next ++ where_true (is_invalid_number (value_of x digits)) (Error (invalid_number exact (value_of x digits)));
  first = character_of_number (value_of x digits);
  more = [];
}

pub number-found : (exact : Bool) (x : Option ℕ) (digits : List ℕ) (next : Option ℕ) → is_base x ≡ true → not (nat_eq (length digits) 0) ≡ true → list_all (is_base_digit x) digits ≡ true
    → number_reference exact (x_text x ++ digits) next ≡ found_number exact x digits next
unfolding number_reference
number-found exact x digits next base some all = rw (has_digits-written x digits base some all, value-written x digits base all) refl

pub number-taken : (x : Option ℕ) (digits : List ℕ) (next : Option ℕ) → drop (suc (length (x_text x ++ digits)) + semicolon_len next) (number_sign ∷ (x_text x ++ digits)) ≡ []
number-taken x digits next = drop_of_length-le (number_sign ∷ (x_text x ++ digits)) (omega arith)

abbrev pub found_entry : NamedReference → List Told → Found
found_entry entry errors = record { taken = length entry.name; errors = errors; first = entry.first; more = second_of entry.second }

abbrev pub entry_errors : Bool → List Told
entry_errors ended = where_true (not ended) (Error (codes "Character reference does not end with semicolon"))

entry-found : (rules : Rules) (entry : NamedReference) (next : Option ℕ) → characters_of_name rules.references entry.name ≡ Some (entry.first, entry.second)
    → named_reference rules.exact false entry.name next (longest_name rules.references entry.name) ≡ found_entry entry (entry_errors (is_ended entry.name))
unfolding named_reference
entry-found rules entry next e =
    let found = longest-found rules.references entry.name entry.first entry.second e in
    rw (found.is, found.name_is, found.first_is, found.second_is)
    (elim (is_ended entry.name) as (λ b. (if b then found_entry entry [] else found_entry entry (entry_errors false)) ≡ found_entry entry (entry_errors b)) [
      | true ↦ refl
      | false ↦ refl
    ])

pub name-found : (rules : Rules) (name : List ℕ) (entry : NamedReference) (next : Option ℕ) → name ≡ entry.name → is_plain_name name ≡ true
    → characters_of_name rules.references entry.name ≡ Some (entry.first, entry.second) → reference rules false name next ≡ found_entry entry (entry_errors (is_ended entry.name))
unfolding reference is_plain_name is_name_character
name-found rules [] entry next same plain e = absurd cc
name-found rules (c ∷ name) entry next same plain e =
    let p = and_parts (is_name_character c) (list_all is_name_character name) (named_alone (c ∷ name) plain) in
    rw (is_not is_name_character c number_sign refl p.0)
    (ap (λ n. named_reference rules.exact false n next (longest_name rules.references n)) same ∙ entry-found rules entry next e)

-- ---- the machine reads them

good-ampersand : is_bad_character ampersand ≡ false
unfolding is_bad_character
good-ampersand = refl

good-semicolon : is_bad_character semicolon ≡ false
unfolding is_bad_character
good-semicolon = refl

-- what is open after the last character: only the semicolon of a number decides a reference
abbrev pub open_after_reference : Mode → WrittenReference → Open
open_after_reference mode Ampersand = InReference (InText mode) []
open_after_reference mode (Number x digits false) = InReference (InText mode) (number_sign ∷ (x_text x ++ digits))
open_after_reference mode (Number x digits true) = Between mode
open_after_reference mode (Named entry) = InReference (InText mode) entry.name

module _ {S H : Type 0} (step : S → Told → ℕ → S) (reply : S → Told → ℕ → Reply H) (foreign : S → Bool) (rules : Rules) where
  trace-held : (mode : Mode) (s : S) (line : ℕ) (last held run more : List ℕ) → Holds rules.references held run
      → trace step reply foreign rules s line last (InReference (InText mode) held) (run ++ more)
      ≡ trace step reply foreign rules s (lines_past line run) last (InReference (InText mode) (held ++ run)) more
  unfolding trace trace_brought trace_here brought_at reference_step lines_past stepped Holds
  trace-held mode s line last held [] more h = rw (append-nil held) refl
  trace-held mode s line last held (c ∷ run) more h =
      rw (h.1, h.0, and-false rules.exact)
      (trace-held mode s (line_past line c) last (held ++ c ∷ []) run more h.2
      ∙ ap (λ l. trace step reply foreign rules s (lines_past (line_past line c) run) last (InReference (InText mode) l) more) (append_assoc held (c ∷ []) run))

  pub trace-ampersand : (mode : Mode) (s : S) (line : ℕ) (last text : List ℕ) → has_references mode ≡ true
      → trace step reply foreign rules s line last (Between mode) (ampersand ∷ text) ≡ trace step reply foreign rules s (line_past line ampersand) last (InReference (InText mode) []) text
  unfolding trace trace_brought trace_here brought_at step_at data_step raw_step stepped
  trace-ampersand mode s line last text has =
      of_references
      (λ mode. trace step reply foreign rules s line last (Between mode) (ampersand ∷ text) ≡ trace step reply foreign rules s (line_past line ampersand) last (InReference (InText mode) []) text)
      (rw (good-ampersand, and-false rules.exact) refl) (λ name. rw (good-ampersand, and-false rules.exact) refl) mode has

  -- the semicolon of a number decides it
  pub trace-ended : (mode : Mode) (s : S) (line : ℕ) (last held : List ℕ) (found : Found)
      → is_undecided rules.references (held ++ semicolon ∷ []) ≡ false → ends_number held semicolon ≡ true
      → reference rules false held (Some semicolon) ≡ found → drop found.taken held ≡ []
      → trace step reply foreign rules s line last (InReference (InText mode) held) (semicolon ∷ [])
      ≡ record { messages = on_line line (tokens_in found); opened = Between mode; last_start_tag = last }
  unfolding trace trace_brought trace_here brought_at reference_step stepped
  trace-ended mode s line last held found decides ends is taken =
      rw (decides, ends, is, good-semicolon, and-false rules.exact)
      (ap (λ M. record { messages = M; opened = Between mode; last_start_tag = last }) (append-nil (on_line line (tokens_of_late (late_tokens (InText mode) found held))) ∙ ap (on_line line) (tokens-taken mode found held taken)))

  -- what was held is open after it, on the line that it reached
  pub trace-run : (mode : Mode) (K : Start) (s : S) (X run more : List ℕ) → has_references mode ≡ true → K.opened ≡ Between mode → normalised K.input X ≡ (ampersand ∷ run) ++ more → Holds rules.references [] run
      → trace step reply foreign rules s (line_after K.input []) K.last_start_tag K.opened (normalised K.input X)
      ≡ trace step reply foreign rules s (line_after K.input (ampersand ∷ run)) K.last_start_tag (InReference (InText mode) run) more
  unfolding lines_past
  trace-run mode K s X run more has starts text holds =
      rw (starts, text)
      (trace-ampersand mode s (line_after K.input []) K.last_start_tag (run ++ more) has
      ∙ trace-held mode s (line_past (line_after K.input []) ampersand) K.last_start_tag [] run more holds
      ∙ ap (λ line. trace step reply foreign rules s line K.last_start_tag (InReference (InText mode) run) more) (sym (line_after-lines_past K.input [] (ampersand ∷ run))))

  -- what a text tells that ends so, and what it leaves open
  record Reads (K : Start) (s : S) (X : List ℕ) (tokens : List Told) (opened : Open) : Type 0 where
    pub told : messages (reading step reply foreign rules K s X) ≡ on_line (line_after K.input (normalised K.input X)) tokens
    pub leaves : (after step reply foreign rules K s X).opened ≡ opened

  -- a text tells the messages of its trace and of its end
  reads-trace : (K : Start) (s : S) (X : List ℕ) (t : Trace) (tokens : List Told) → trace step reply foreign rules s (line_after K.input []) K.last_start_tag K.opened (normalised K.input X) ≡ t
      → t.messages ++ on_line (line_after K.input (normalised K.input X)) (tokens_at_end rules t.opened) ≡ on_line (line_after K.input (normalised K.input X)) tokens
      → Reads K s X tokens t.opened
  reads-trace K s X t tokens e same =
      let leaves : (after step reply foreign rules K s X).opened ≡ t.opened = after-opened step reply foreign rules K s X ∙ ap (λ (u : Trace). u.opened) e in
      record {
        told =
            ap messages (reading-events step reply foreign rules K s X)
            ∙ messages-append (told step reply foreign rules K s X) _
            ∙ ap (λ M. messages (told step reply foreign rules K s X) ++ M) (messages-at_end step reply foreign rules K s X)
            ∙ rw (told-trace step reply foreign rules K s X, leaves, e) same;
        leaves = leaves;
      }

  -- a text that is decided by its end
  reads-held : (mode : Mode) (K : Start) (s : S) (X run : List ℕ) (found : Found) → has_references mode ≡ true → K.opened ≡ Between mode → normalised K.input X ≡ ampersand ∷ run → Holds rules.references [] run
      → reference rules false run None ≡ found → drop found.taken run ≡ []
      → Reads K s X (tokens_in found ++ End ∷ []) (InReference (InText mode) run)
  unfolding trace
  reads-held mode K s X run found has starts text holds is taken =
      reads-trace K s X (record { messages = []; opened = InReference (InText mode) run; last_start_tag = K.last_start_tag }) (tokens_in found ++ End ∷ [])
      (trace-run mode K s X run [] has starts (text ∙ sym (append-nil (ampersand ∷ run))) holds)
      (ap (on_line (line_after K.input (normalised K.input X))) (end-found rules mode run found has is taken))

  -- a number that a semicolon decides
  reads-ended : (mode : Mode) (K : Start) (s : S) (X held : List ℕ) (found : Found) → has_references mode ≡ true → K.opened ≡ Between mode → normalised K.input X ≡ (ampersand ∷ held) ++ semicolon ∷ [] → Holds rules.references [] held
      → is_undecided rules.references (held ++ semicolon ∷ []) ≡ false → ends_number held semicolon ≡ true
      → reference rules false held (Some semicolon) ≡ found → drop found.taken held ≡ []
      → Reads K s X (tokens_in found ++ End ∷ []) (Between mode)
  unfolding late_at_end_of open_at_end_of line_past
  reads-ended mode K s X held found has starts text holds decides ends is taken =
      let line : ℕ = line_after K.input (ampersand ∷ held) in
      let last : line_after K.input (normalised K.input X) ≡ line =
      ap (line_after K.input) text ∙ line_after-past K.input (ampersand ∷ held) semicolon ∙ line_after-last K.input (ampersand ∷ held) in
      reads-trace K s X (record { messages = on_line line (tokens_in found); opened = Between mode; last_start_tag = K.last_start_tag }) (tokens_in found ++ End ∷ [])
      (trace-run mode K s X held (semicolon ∷ []) has starts text holds ∙ trace-ended mode s line K.last_start_tag held found decides ends is taken)
      (rw (last, told_at_end-references rules.exact mode has) (sym (map-append (λ (token : Told). record { token = token; line = line }) (tokens_in found) (End ∷ []))))

  -- a reference, written out, tells its errors and its characters
  reads-reference : (K : Start) (s : S) (X : List ℕ) (written_as : WrittenReference) → IsTable rules.references → (one : IsReference rules.references K X written_as)
      → Reads K s X (reference_tokens rules.exact written_as) (open_after_reference one.mode written_as)
  unfolding written reference_tokens reference_errors reference_characters reference is_undecided ends_number unended_number Holds
  reads-reference K s X Ampersand table one =
      reads-held one.mode K s X [] (record { taken = 0; errors = []; first = ampersand; more = [] }) one.has one.starts one.text tt refl refl
  reads-reference K s X (Number x digits false) table one =
      let p = and_parts (is_base x) _ one.is_reference in
      let q = and_parts (not (nat_eq (length digits) 0)) (list_all (is_base_digit x) digits) p.1 in
      let held : List ℕ = number_sign ∷ (x_text x ++ digits) in
      reads-held one.mode K s X held (found_number rules.exact x digits None) one.has one.starts (one.text ∙ append-nil (ampersand ∷ held)) (Holds-number rules.references x digits p.0 q.1)
      (number-found rules.exact x digits None p.0 q.0 q.1) (number-taken x digits None)
  reads-reference K s X (Number x digits true) table one =
      let p = and_parts (is_base x) _ one.is_reference in
      let q = and_parts (not (nat_eq (length digits) 0)) (list_all (is_base_digit x) digits) p.1 in
      let held : List ℕ = number_sign ∷ (x_text x ++ digits) in
      reads-ended one.mode K s X held (found_number rules.exact x digits (Some semicolon)) one.has one.starts one.text (Holds-number rules.references x digits p.0 q.1)
      (is_number-ended x digits p.0 q.0 q.1) (rw (has_digits-written x digits p.0 q.0 q.1) refl)
      (number-found rules.exact x digits (Some semicolon) p.0 q.0 q.1) (number-taken x digits (Some semicolon))
  reads-reference K s X (Named entry) table one =
      let plain : is_plain_name entry.name ≡ true = plain-entry rules.references entry.name (entry.first, entry.second) table.plain one.is_reference in
      reads-held one.mode K s X entry.name (found_entry entry (entry_errors (is_ended entry.name))) one.has one.starts one.text
      (Holds-name rules.references [] entry.name (entry.first, entry.second) one.is_reference refl (named_alone entry.name plain))
      (name-found rules entry.name entry None refl plain one.is_reference) (drop_of_length-le entry.name (omega arith))

  pub reading-reference : (K : Start) (s : S) (X : List ℕ) (written_as : WrittenReference) → IsTable rules.references → IsReference rules.references K X written_as
      → messages (reading step reply foreign rules K s X) ≡ on_line (line_after K.input (written written_as)) (reference_tokens rules.exact written_as)
  reading-reference K s X written_as table one =
      (reads-reference K s X written_as table one).told
      ∙ ap (λ text. on_line (line_after K.input text) (reference_tokens rules.exact written_as)) one.text

  pub after-reference : (K : Start) (s : S) (X : List ℕ) (written_as : WrittenReference) → IsTable rules.references → (one : IsReference rules.references K X written_as)
      → (after step reply foreign rules K s X).opened ≡ open_after_reference one.mode written_as
  after-reference K s X written_as table one = (reads-reference K s X written_as table one).leaves
