-- A reference wherever it stands: it tells what it is, and what it doesn't take is read anew.
use Rattle.std.proofs.Common.{◌≡◌, ◌≤◌, ℕ, ◌-◌, zero, suc, Bool, true, false, List, [], ◌∷◌, ◌++◌, map, take, drop, length, length-append, Option, None, Some, refl, ap, sym, ◌∙◌, subst, arith}
use Rattle.std.specs.Prelude.{◌==◌, ◌&&◌, ◌||◌, nat_eq, All, IsTrue, IfSome, encode_utf8, if◌then◌else◌}
use Rattle.std.specs.Bool.{nat_lt}
use Rattle.std.specs.Char.{is_ascii_alphanumeric, is_ascii_digit, is_ascii_hexdigit}
use Rattle.std.specs.List.{list_all, starts_with}
use Rattle.std.specs.Option.{is_none}
use Rattle.std.proofs.Math.Bool.{and-false}
use Rattle.std.proofs.Math.ListN.{drop_of_length-le}
use Rattle.std.proofs.lemmas.Bool.{false≢true, eqb-true, and_parts}
use Rattle.std.proofs.lemmas.Bool.Decides.{nat_tests}
use Rattle.std.proofs.lemmas.List.{append_assoc, append-nil, map-append, drop-append-le, drop_at, take_at, take-append-le, take-append-drop}
use Rattle.std.proofs.lemmas.List.Folds.{list_all-append}
use Rattle.html5ever_interface.specs.Sink.{Means, Message, stepped, on_line}
use Rattle.html5ever_interface.specs.Token.{Told}
use Rattle.html5ever_interface.specs.Token.Told.{Text}
use Rattle.html5ever_interface.proofs.Steppings.{stepped-append}
use Rattle.html5ever_interface.specs.declared.states.AttrValueKind.TheVariants.{Unquoted, SingleQuoted, DoubleQuoted}
use Rattle.html5reading.specs.Characters.{null, line_feed, number_sign, quotation_mark, apostrophe, ampersand, less_than, semicolon, is_bad_character, is_white_space}
use Rattle.html5reading.specs.RawText.{raw_after, raw_character}
use Rattle.html5reading.specs.Reading.Here.{Tells}
use Rattle.html5reading.specs.Reference.{Found, in_value, reference, number_reference, named_reference, no_name, has_digits, longest_name, longer, is_ended, goes_on, first_or, is_undecided, is_number, is_x, ends_number, text_in, opened_in, told_of, characters_in, held_text, late_tokens, opened_after, with_value}
use Rattle.html5reading.specs.Slice.{Late, tokens_of_late, run_while, after_while}
use Rattle.html5reading.specs.Start.{Input, Start, OpenTag, Mode, Stand, Open, Rules, is_undecided_open}
use Rattle.html5reading.specs.Start.Mode.{Data, Plain, RawText, Cdata}
use Rattle.html5reading.specs.Start.Raw.{Rcdata, Rawtext, ScriptData, Escaped, DoubleEscaped}
use Rattle.html5reading.specs.Start.Place.{InValue}
use Rattle.html5reading.specs.Start.Stand.{InText, InAttribute}
use Rattle.html5reading.specs.Start.Open.{Between, InTag, InReference}
use Rattle.html5reading.specs.Tag.{in_quoted, in_unquoted, is_odd_in_unquoted, unquoted_error}
use Rattle.html5reading.proofs.GoodCharacters.{good_between}
use Rattle.html5grammar.proofs.HeldWords.{is_good, begins-while, while-parts, trace-settles}
use Rattle.html5reading.proofs.InputLemmas.{line_past, lines_past, line_after-last, line_after-past, input_after-line_none, normalised-append}
use Rattle.html5grammar.proofs.ByItself.{trace-before}
use Rattle.html5grammar.specs.Anywhere.{TellsBefore, start_beyond}
use Rattle.html5reading.specs.NormalisedText.{line_after, input_after}
use Rattle.html5grammar.specs.Items.{IsReferenceIn}
use Rattle.html5grammar.specs.Reference.{has_references}
use Rattle.html5grammar.specs.Tag.{held_in, deciding_in, found_in}
use Rattle.html5reading.specs.Machine.{brought_at, step_at, data_step, raw_step, tag_step, quoted_step, unquoted_step, reference_step}
use Rattle.html5grammar.proofs.Comment.Text.{bytes-append}
use Rattle.html5reading.proofs.TableNames.{is_name_character, none_begins}
use Rattle.html5reading.proofs.Traces.{Trace, trace, trace_brought, trace_here, with_messages, brought-tells}
use Rattle.html5grammar.proofs.Comment.Forms.{begins-parts}
use Rattle.html5grammar.proofs.Reference.Reading.{of_references, trace-ampersand}
use Rattle.html5grammar.proofs.Split.{nil≢cons, cons_first}
use Rattle.markup5ever.specs.NamedReferences.{NamedReference, IsTable, begins_name, is_plain_name}

-- ---- the characters that may be held of a reference

unfoldable pub is_held_character : ℕ → Bool
is_held_character c = is_ascii_alphanumeric c || (c == number_sign) || (c == semicolon)

alphanumeric-held : (c : ℕ) → is_ascii_alphanumeric c ≡ true → is_held_character c ≡ true
unfolding is_held_character
alphanumeric-held c h = rw h refl

digit-held : (c : ℕ) → is_ascii_digit c ≡ true → is_held_character c ≡ true
unfolding is_held_character
digit-held c h = grind (arith, nat_tests)

hexdigit-held : (c : ℕ) → is_ascii_hexdigit c ≡ true → is_held_character c ≡ true
unfolding is_held_character
hexdigit-held c h = grind (arith, nat_tests)

x-held : (c : ℕ) → is_x c ≡ true → is_held_character c ≡ true
unfolding is_held_character
x-held c h = grind (arith, nat_tests)

name-held : (c : ℕ) → is_name_character c ≡ true → is_held_character c ≡ true
unfolding is_held_character is_name_character
name-held c h = grind (arith, nat_tests)

sign-held : (c : ℕ) → (c == number_sign) ≡ true → is_held_character c ≡ true
unfolding is_held_character
sign-held c h = grind (arith, nat_tests)

held-all : (p : ℕ → Bool) → ((c : ℕ) → p c ≡ true → is_held_character c ≡ true) → (text : List ℕ) → list_all p text ≡ true → list_all is_held_character text ≡ true
held-all p held [] all = refl
held-all p held (c ∷ text) all =
    let parts = and_parts (p c) (list_all p text) all in
    rw (held c parts.0, held-all p held text parts.1) refl

held-number : (text : List ℕ) → is_number text ≡ true → list_all is_held_character text ≡ true
unfolding is_number
held-number [] all = refl
held-number (c ∷ text) all =
    elim (is_x c) as (λ b. is_x c ≡ b → list_all (λ d. if b then is_ascii_hexdigit d else is_ascii_digit d) (if b then text else c ∷ text) ≡ true → list_all is_held_character (c ∷ text) ≡ true) [
      | true ↦ λ x digits. rw (x-held c x, held-all is_ascii_hexdigit hexdigit-held text digits) refl
      | false ↦ λ other digits. held-all is_ascii_digit digit-held (c ∷ text) digits
    ] refl all

or_parts : (p q : Bool) (R : Type 0) → (p ≡ true → R) → (q ≡ true → R) → (p || q) ≡ true → R
or_parts true q R f g h = f refl
or_parts false q R f g h = g h

held-begun : (references : List NamedReference) (text : List ℕ) → All (λ entry. IsTrue (is_plain_name entry.name)) references → begins_name references text ≡ true → list_all is_held_character text ≡ true
held-begun references text plain begins =
    elim (list_all is_name_character text) as (λ b. list_all is_name_character text ≡ b → list_all is_held_character text ≡ true) [
      | true ↦ λ named. held-all is_name_character name-held text named
      | false ↦ λ odd. absurd (false≢true (sym (none_begins references text plain odd) ∙ begins))
    ] refl

-- what leaves a reference undecided is letters, digits, `#` and `;`
pub held-undecided : (references : List NamedReference) (held : List ℕ) → All (λ entry. IsTrue (is_plain_name entry.name)) references
    → is_undecided references held ≡ true → list_all is_held_character held ≡ true
unfolding is_undecided
held-undecided references [] plain h = refl
held-undecided references (c ∷ held) plain h =
    elim (c == number_sign) as (λ b. (c == number_sign) ≡ b
    → (if b then is_number held else begins_name references (c ∷ held) || (list_all is_ascii_alphanumeric (c ∷ held) && is_none (longest_name references (c ∷ held)))) ≡ true
    → list_all is_held_character (c ∷ held) ≡ true) [
      | true ↦ λ sign number. rw (sign-held c sign, held-number held number) refl
      | false ↦ λ other named. or_parts (begins_name references (c ∷ held)) _ (list_all is_held_character (c ∷ held) ≡ true)
          (held-begun references (c ∷ held) plain)
          (λ unknown. held-all is_ascii_alphanumeric alphanumeric-held (c ∷ held) (and_parts (list_all is_ascii_alphanumeric (c ∷ held)) (is_none (longest_name references (c ∷ held))) unknown).0)
          named
    ] refl h

-- such a character is text wherever a reference stands

good-held : (c : ℕ) → is_held_character c ≡ true → is_bad_character c ≡ false
unfolding is_held_character
good-held c h = good_between c (grind (arith, nat_tests)) (grind (arith, nat_tests))

none-null : (c : ℕ) → is_held_character c ≡ true → (c == null) ≡ false
unfolding is_held_character
none-null c h = grind (arith, nat_tests)

pub held-good : (text : List ℕ) → list_all is_held_character text ≡ true → list_all is_good text ≡ true
held-good [] h = refl
held-good (c ∷ text) h =
    let p = and_parts (is_held_character c) (list_all is_held_character text) h in
    rw (good-held c p.0, none-null c p.0, held-good text p.1) refl

none-line_feed : (c : ℕ) → is_held_character c ≡ true → (c == line_feed) ≡ false
unfolding is_held_character
none-line_feed c h = grind (arith, nat_tests)

none-less_than : (c : ℕ) → is_held_character c ≡ true → (c == less_than) ≡ false
unfolding is_held_character
none-less_than c h = grind (arith, nat_tests)

none-ampersand : (c : ℕ) → is_held_character c ≡ true → (c == ampersand) ≡ false
unfolding is_held_character
none-ampersand c h = grind (arith, nat_tests)

none-quotation_mark : (c : ℕ) → is_held_character c ≡ true → (c == quotation_mark) ≡ false
unfolding is_held_character
none-quotation_mark c h = grind (arith, nat_tests)

none-apostrophe : (c : ℕ) → is_held_character c ≡ true → (c == apostrophe) ≡ false
unfolding is_held_character
none-apostrophe c h = grind (arith, nat_tests)

held-unquoted : (c : ℕ) → is_held_character c ≡ true → in_unquoted c ≡ true
unfolding is_held_character in_unquoted is_white_space
held-unquoted c h = grind (arith, nat_tests)

held-no_odd : (c : ℕ) → is_held_character c ≡ true → is_odd_in_unquoted c ≡ false
unfolding is_held_character is_odd_in_unquoted
held-no_odd c h = grind (arith, nat_tests)

-- where references stand
abbrev pub takes_reference : Stand → Bool
takes_reference (InText Data) = true
takes_reference (InText (RawText Rcdata name)) = true
takes_reference (InText mode) = false
takes_reference (InAttribute kind tag) = true

with_value-push : (tag : OpenTag) (cs : List ℕ) (c : ℕ) → with_value (with_value tag cs) (c ∷ []) ≡ with_value tag (cs ++ c ∷ [])
with_value-push tag cs c =
    ap (λ value. record tag { last_value = value })
    (append_assoc tag.last_value _ _ ∙ ap (λ l. tag.last_value ++ l) (sym (bytes-append cs (c ∷ []))))

module _ (exact : Bool) where
  -- a character that can be held of a reference is text where the reference stands, or part of the value
  step-held : (stand : Stand) (cs : List ℕ) (c : ℕ) → takes_reference stand ≡ true → is_held_character c ≡ true
      → step_at exact (opened_in stand cs) c ≡ Tells (text_in stand (c ∷ [])) (opened_in stand (cs ++ c ∷ []))
  unfolding step_at data_step raw_step raw_after raw_character tag_step quoted_step unquoted_step in_quoted unquoted_error
  step-held (InText Data) cs c takes h = rw (none-less_than c h, none-ampersand c h, none-null c h) refl
  step-held (InText Plain) cs c takes h = absurd (false≢true takes)
  step-held (InText Cdata) cs c takes h = absurd (false≢true takes)
  step-held (InText (RawText Rcdata name)) cs c takes h = rw (none-less_than c h, none-ampersand c h, none-null c h) refl
  step-held (InText (RawText Rawtext name)) cs c takes h = absurd (false≢true takes)
  step-held (InText (RawText ScriptData name)) cs c takes h = absurd (false≢true takes)
  step-held (InText (RawText (Escaped dashes) name)) cs c takes h = absurd (false≢true takes)
  step-held (InText (RawText (DoubleEscaped dashes) name)) cs c takes h = absurd (false≢true takes)
  step-held (InAttribute DoubleQuoted tag) cs c takes h =
      rw (none-quotation_mark c h, none-ampersand c h, none-null c h) (ap (λ t. Tells [] (InTag (InValue DoubleQuoted) t)) (with_value-push tag cs c))
  step-held (InAttribute SingleQuoted tag) cs c takes h =
      rw (none-apostrophe c h, none-ampersand c h, none-null c h) (ap (λ t. Tells [] (InTag (InValue SingleQuoted) t)) (with_value-push tag cs c))
  step-held (InAttribute Unquoted tag) cs c takes h =
      rw (held-unquoted c h, none-null c h, held-no_odd c h, and-false exact) (ap (λ t. Tells [] (InTag (InValue Unquoted) t)) (with_value-push tag cs c))

decided-in : (stand : Stand) (cs : List ℕ) → is_undecided_open (opened_in stand cs) ≡ false
decided-in (InText mode) cs = refl
decided-in (InAttribute kind tag) cs = refl

-- ---- what a reference takes

-- the longest name that begins a text is not longer than the text
longest-within : (references : List NamedReference) (text : List ℕ) → IfSome (longest_name references text) (λ entry. length entry.name ≤ length text)
unfolding longest_name
longest-within [] text = tt
longest-within (x ∷ references) text =
    elim (starts_with nat_eq text x.name) as (λ b. starts_with nat_eq text x.name ≡ b → IfSome (if b then Some (longer x (longest_name references text)) else longest_name references text) (λ entry. length entry.name ≤ length text)) [
      | true ↦ λ begins.
          let within : length x.name ≤ length text = omega (arith, ap length (begins-parts x.name text begins), length-append x.name (drop (length x.name) text)) in
          within-longer (longest_name references text) within (longest-within references text)
      | false ↦ λ other. longest-within references text
    ] refl
  where
    within-longer : (other : Option NamedReference) → length x.name ≤ length text → IfSome other (λ entry. length entry.name ≤ length text) → length (longer x other).name ≤ length text
    within-longer None p q = p
    within-longer (Some other) p q = elim (nat_lt (length x.name) (length other.name)) as (λ b. length (if b then other else x).name ≤ length text) [ true ↦ q | false ↦ p ]

taken-if : (n : ℕ) (b : Bool) (p q : Found) → p.taken ≤ n → q.taken ≤ n → (if b then p else q).taken ≤ n
taken-if n true p q f g = f
taken-if n false p q f g = g

none-taken : (n : ℕ) → 0 ≤ n
none-taken n = omega arith

taken-named : (exact v : Bool) (held : List ℕ) (next : Option ℕ) (found : Option NamedReference) → IfSome found (λ entry. length entry.name ≤ length held)
    → (named_reference exact v held next found).taken ≤ length held
unfolding named_reference no_name
taken-named exact v [] next None within = none-taken _
taken-named exact v (c ∷ held) None None within = none-taken _
taken-named exact v (c ∷ held) (Some d) None within = none-taken _
taken-named exact v held next (Some entry) within =
    taken-if _ (is_ended entry.name) _ _ within (taken-if _ (v && goes_on (first_or (drop (length entry.name) held) next)) _ _ (none-taken _) within)

taken-number : (exact : Bool) (held : List ℕ) (c : ℕ) (h t : Bool) → has_digits held ≡ h → (c == semicolon) ≡ t → (h && t) ≡ false
    → (number_reference exact held (Some c)).taken ≤ suc (length held)
unfolding number_reference
taken-number exact held c true true e f g = absurd (false≢true (sym g))
taken-number exact held c true false e f g = rw (e, f) (omega arith)
taken-number exact held c false t e f g = rw e (omega arith)

taken-within : (rules : Rules) (v : Bool) (run : List ℕ) (c : ℕ) → ends_number run c ≡ false → (reference rules v run (Some c)).taken ≤ length run
unfolding reference ends_number
taken-within rules v [] c h = none-taken _
taken-within rules v (d ∷ held) c h =
    elim (d == number_sign) as (λ b. (b && (has_digits held && (c == semicolon))) ≡ false
    → (if b then number_reference rules.exact held (Some c) else named_reference rules.exact v (d ∷ held) (Some c) (longest_name rules.references (d ∷ held))).taken ≤ length (d ∷ held)) [
      | true ↦ λ g. subst (λ n. (number_reference rules.exact held (Some c)).taken ≤ n) (omega arith) (taken-number rules.exact held c (has_digits held) (c == semicolon) refl refl g)
      | false ↦ λ g. taken-named rules.exact v (d ∷ held) (Some c) (longest_name rules.references (d ∷ held)) (longest-within rules.references (d ∷ held))
    ] h

taken-ended : (rules : Rules) (v : Bool) (run : List ℕ) (c : ℕ) → ends_number run c ≡ true → (reference rules v run (Some c)).taken ≡ suc (length run)
unfolding reference ends_number number_reference
taken-ended rules v [] c h = absurd (false≢true h)
taken-ended rules v (d ∷ held) c h =
    let p = and_parts (d == number_sign) (has_digits held && (c == semicolon)) h in
    let q = and_parts (has_digits held) (c == semicolon) p.1 in
    rw (p.0, q.0, q.1) (omega arith)

-- ---- the tokens that are decided

held-drop : (n : ℕ) (text : List ℕ) → list_all is_held_character text ≡ true → list_all is_held_character (drop n text) ≡ true
held-drop zero text h = h
held-drop (suc n) [] h = refl
held-drop (suc n) (c ∷ text) h = held-drop n text (and_parts (is_held_character c) (list_all is_held_character text) h).1

tokens-held : (stand : Stand) (rest : List ℕ) → tokens_of_late (held_text stand rest) ≡ text_in stand rest
unfolding held_text
tokens-held (InText mode) [] = refl
tokens-held (InText mode) (c ∷ rest) = ap (λ l. Text (encode_utf8 c) ∷ l) (tokens-held (InText mode) rest)
tokens-held (InAttribute kind tag) [] = refl
tokens-held (InAttribute kind tag) (c ∷ rest) = tokens-held (InAttribute kind tag) rest

tokens-more : (back : ℕ) (tokens : List Told) (more : List Late) → tokens_of_late (map (λ (token : Told). record { token = token; back = back; is_at = false; is_held = false }) tokens ++ more) ≡ tokens ++ tokens_of_late more
tokens-more back [] more = refl
tokens-more back (t ∷ tokens) more = ap (λ l. t ∷ l) (tokens-more back tokens more)

pub tokens-late : (stand : Stand) (found : Found) (held : List ℕ) → tokens_of_late (late_tokens stand found held) ≡ told_of stand found ++ text_in stand (drop found.taken held)
tokens-late stand found held =
    tokens-more (suc (length held) - found.taken) (told_of stand found) (held_text stand (drop found.taken held))
    ∙ ap (λ l. told_of stand found ++ l) (tokens-held stand (drop found.taken held))

text_in-nil : (stand : Stand) → text_in stand [] ≡ []
text_in-nil (InText mode) = refl
text_in-nil (InAttribute kind tag) = refl

ends-held : (run : List ℕ) (c : ℕ) → ends_number run c ≡ true → is_held_character c ≡ true
unfolding ends_number is_held_character
ends-held [] c h = absurd (false≢true h)
ends-held (d ∷ held) c h =
    let p = and_parts (d == number_sign) (has_digits held && (c == semicolon)) h in
    let q = and_parts (has_digits held) (c == semicolon) p.1 in
    subst (λ e. (is_ascii_alphanumeric e || (e == number_sign) || (e == semicolon)) ≡ true) (sym (eqb-true c semicolon q.1)) refl

-- the character after the held text decides
later-decides : (begins : List ℕ → Bool) (before text : List ℕ) (c : ℕ) (more : List ℕ) → after_while begins before text ≡ c ∷ more
    → begins ((before ++ run_while begins before text) ++ c ∷ []) ≡ false
unfolding run_while after_while
later-decides begins before [] c more e = absurd (nil≢cons e)
later-decides begins before (d ∷ text) c more e =
    let past : List ℕ = before ++ d ∷ [] in
    elim (begins past) as (λ b. begins past ≡ b → (if b then after_while begins past text else d ∷ text) ≡ c ∷ more → begins ((before ++ (if b then d ∷ run_while begins past text else [])) ++ c ∷ []) ≡ false) [
      | true ↦ λ g h. ap (λ l. begins (l ++ c ∷ [])) (sym (append_assoc before (d ∷ []) (run_while begins past text))) ∙ later-decides begins past text c more h
      | false ↦ λ g h. ap (λ l. begins (l ++ c ∷ [])) (append-nil before) ∙ ap (λ x. begins (before ++ x ∷ [])) (sym (cons_first h)) ∙ g
    ] refl e

text_in-append : (stand : Stand) (xs ys : List ℕ) → text_in stand (xs ++ ys) ≡ text_in stand xs ++ text_in stand ys
text_in-append (InText mode) xs ys = map-append (λ (c : ℕ). Text (encode_utf8 c)) xs ys
text_in-append (InAttribute kind tag) xs ys = refl

-- ---- the machine

module _ {X S H : Type 0} (means : Means X S H) (rules : Rules) where
  -- a line that a character without a line break leaves
  abbrev pub IsLine : ℕ → Type 0
  IsLine line = (c : ℕ) → (c == line_feed) ≡ false → line_past line c ≡ line

  -- the held text of a reference tells nothing
  pub trace-run : (stand : Stand) (s : S) (line : ℕ) (last held F : List ℕ) → IsLine line → list_all is_held_character (run_while (is_undecided rules.references) held F) ≡ true
      → trace means.step means.reply means.foreign rules s line last (InReference stand held) F
      ≡ trace means.step means.reply means.foreign rules s line last (InReference stand (held ++ run_while (is_undecided rules.references) held F)) (after_while (is_undecided rules.references) held F)
  unfolding run_while after_while trace trace_brought trace_here brought_at reference_step stepped
  trace-run stand s line last held [] same all = rw (append-nil held) refl
  trace-run stand s line last held (c ∷ F) same all = by (is_undecided rules.references (held ++ c ∷ [])) refl all (trace-run stand s line last (held ++ c ∷ []) F same)
    where
      by : (b : Bool) → is_undecided rules.references (held ++ c ∷ []) ≡ b
          → list_all is_held_character (if b then c ∷ run_while (is_undecided rules.references) (held ++ c ∷ []) F else []) ≡ true
          → (list_all is_held_character (run_while (is_undecided rules.references) (held ++ c ∷ []) F) ≡ true
          → trace means.step means.reply means.foreign rules s line last (InReference stand (held ++ c ∷ [])) F
          ≡ trace means.step means.reply means.foreign rules s line last (InReference stand ((held ++ c ∷ []) ++ run_while (is_undecided rules.references) (held ++ c ∷ []) F)) (after_while (is_undecided rules.references) (held ++ c ∷ []) F))
          → trace means.step means.reply means.foreign rules s line last (InReference stand held) (c ∷ F)
          ≡ trace means.step means.reply means.foreign rules s line last (InReference stand (held ++ (if b then c ∷ run_while (is_undecided rules.references) (held ++ c ∷ []) F else []))) (if b then after_while (is_undecided rules.references) (held ++ c ∷ []) F else c ∷ F)
      by true e h further =
          let p = and_parts (is_held_character c) _ h in
          rw (e, good-held c p.0, and-false rules.exact, same c (none-line_feed c p.0))
          (further p.1 ∙ ap (λ l. trace means.step means.reply means.foreign rules s line last (InReference stand l) (after_while (is_undecided rules.references) (held ++ c ∷ []) F)) (append_assoc held (c ∷ []) _))
      by false e h further = ap (λ l. trace means.step means.reply means.foreign rules s line last (InReference stand l) (c ∷ F)) (sym (append-nil held))

  with-two : (s : S) (M N : List Message) (line : ℕ) (last : List ℕ) (opened : Open) (text : List ℕ)
      → with_messages M (with_messages N (trace means.step means.reply means.foreign rules (stepped means.step (stepped means.step s M) N) line last opened text))
      ≡ with_messages (M ++ N) (trace means.step means.reply means.foreign rules (stepped means.step s (M ++ N)) line last opened text)
  with-two s M N line last opened text =
      let rest : Trace = trace means.step means.reply means.foreign rules (stepped means.step (stepped means.step s M) N) line last opened text in
      rw (stepped-append means.step s M N)
      (ap (λ l. record { messages = l; opened = rest.opened; last_start_tag = rest.last_start_tag }) (sym (append_assoc M N rest.messages)))

  on_line-append : (line : ℕ) (xs ys : List Told) → on_line line (xs ++ ys) ≡ on_line line xs ++ on_line line ys
  on_line-append line xs ys = map-append (λ (token : Told). record { token = token; line = line }) xs ys

  -- one of them, read where a reference stands
  trace-held_one : (stand : Stand) (s : S) (line : ℕ) (last cs : List ℕ) (c : ℕ) (rest : List ℕ) → takes_reference stand ≡ true → IsLine line → is_held_character c ≡ true
      → trace means.step means.reply means.foreign rules s line last (opened_in stand cs) (c ∷ rest)
      ≡ with_messages (on_line line (text_in stand (c ∷ []))) (trace means.step means.reply means.foreign rules (stepped means.step s (on_line line (text_in stand (c ∷ [])))) line last (opened_in stand (cs ++ c ∷ [])) rest)
  unfolding trace trace_brought trace_here stepped
  trace-held_one stand s line last cs c rest takes same h =
      rw (brought-tells rules (means.foreign s) (opened_in stand cs) c _ (decided-in stand cs) (step-held rules.exact stand cs c takes h), good-held c h, and-false rules.exact, same c (none-line_feed c h)) refl

  -- the characters that were held and not taken are read as text
  trace-plain : (stand : Stand) (s : S) (line : ℕ) (last cs text rest : List ℕ) → takes_reference stand ≡ true → IsLine line → list_all is_held_character text ≡ true
      → trace means.step means.reply means.foreign rules s line last (opened_in stand cs) (text ++ rest)
      ≡ with_messages (on_line line (text_in stand text)) (trace means.step means.reply means.foreign rules (stepped means.step s (on_line line (text_in stand text))) line last (opened_in stand (cs ++ text)) rest)
  unfolding stepped
  trace-plain (InText mode) s line last cs [] rest takes same all = refl
  trace-plain (InAttribute kind tag) s line last cs [] rest takes same all = rw (append-nil cs) refl
  trace-plain stand s line last cs (c ∷ text) rest takes same all =
      let p = and_parts (is_held_character c) (list_all is_held_character text) all in
      let M : List Message = on_line line (text_in stand (c ∷ [])) in
      let N : List Message = on_line line (text_in stand text) in
      trace-held_one stand s line last cs c (text ++ rest) takes same p.0
      ∙ ap (with_messages M) (trace-plain stand (stepped means.step s M) line last (cs ++ c ∷ []) text rest takes same p.1)
      ∙ with-two s M N line last (opened_in stand ((cs ++ c ∷ []) ++ text)) rest
      ∙ ap (λ l. with_messages (M ++ N) (trace means.step means.reply means.foreign rules (stepped means.step s (M ++ N)) line last (opened_in stand l) rest)) (append_assoc cs (c ∷ []) text)
      ∙ ap (λ l. with_messages l (trace means.step means.reply means.foreign rules (stepped means.step s l) line last (opened_in stand (cs ++ c ∷ text)) rest))
      (sym (ap (on_line line) (text_in-append stand (c ∷ []) text) ∙ on_line-append line (text_in stand (c ∷ [])) (text_in stand text)))

  step-decides : (stand : Stand) (run : List ℕ) (c : ℕ) (answer : Bool) → is_undecided rules.references (run ++ c ∷ []) ≡ false → ends_number run c ≡ false
      → let found : Found = reference rules (in_value stand) run (Some c) in
      brought_at rules answer (InReference stand run) c ≡ record { settled = late_tokens stand found run; here = step_at rules.exact (opened_after stand found run) c }
  unfolding brought_at reference_step
  step-decides stand run c answer e f = rw (e, f) refl

  trace-ended_step : (stand : Stand) (s : S) (line : ℕ) (last run : List ℕ) (c : ℕ) (more : List ℕ) → IsLine line → is_held_character c ≡ true
      → is_undecided rules.references (run ++ c ∷ []) ≡ false → ends_number run c ≡ true
      → let found : Found = reference rules (in_value stand) run (Some c) in
      let M : List Message = on_line line (tokens_of_late (late_tokens stand found run)) in
      trace means.step means.reply means.foreign rules s line last (InReference stand run) (c ∷ more)
      ≡ with_messages M (trace means.step means.reply means.foreign rules (stepped means.step s M) line last (opened_after stand found run) more)
  unfolding trace trace_brought trace_here brought_at reference_step stepped
  trace-ended_step stand s line last run c more same h e f = rw (e, f, good-held c h, and-false rules.exact, same c (none-line_feed c h)) refl

  -- the character after the held text decides, and is read anew
  trace-decided : (stand : Stand) (s : S) (line : ℕ) (last run : List ℕ) (c : ℕ) (more : List ℕ) → takes_reference stand ≡ true → IsLine line → list_all is_held_character run ≡ true
      → is_undecided rules.references (run ++ c ∷ []) ≡ false → (ends : Bool) → ends_number run c ≡ ends
      → let found : Found = reference rules (in_value stand) run (Some c) in
      let M : List Message = on_line line (told_of stand found) in
      trace means.step means.reply means.foreign rules s line last (InReference stand run) (c ∷ more)
      ≡ with_messages M (trace means.step means.reply means.foreign rules (stepped means.step s M) line last (opened_in stand (characters_in found)) (drop found.taken (run ++ c ∷ more)))
  trace-decided stand s line last run c more takes same all decides true ends =
      let found : Found = reference rules (in_value stand) run (Some c) in
      let M : List Message = on_line line (told_of stand found) in
      let all_taken : found.taken ≡ suc (length run) = taken-ended rules (in_value stand) run c ends in
      let fewer : length run ≤ suc (length run) = omega arith in
      let none : drop found.taken run ≡ [] = ap (λ n. drop n run) all_taken ∙ drop_of_length-le run fewer in
      let length_is : suc (length run) ≡ length (run ++ c ∷ []) = omega (arith, length-append run (c ∷ [])) in
      let rest : drop found.taken (run ++ c ∷ more) ≡ more =
      ap (λ n. drop n (run ++ c ∷ more)) (all_taken ∙ length_is)
      ∙ ap (drop (length (run ++ c ∷ []))) (sym (append_assoc run (c ∷ []) more))
      ∙ drop_at (run ++ c ∷ []) more (length (run ++ c ∷ [])) refl in
      trace-ended_step stand s line last run c more same (ends-held run c ends) decides ends
      ∙ ap (λ l. with_messages l (trace means.step means.reply means.foreign rules (stepped means.step s l) line last (opened_after stand found run) more))
      (ap (on_line line) (tokens-late stand found run ∙ ap (λ l. told_of stand found ++ text_in stand l) none ∙ ap (λ l. told_of stand found ++ l) (text_in-nil stand) ∙ append-nil (told_of stand found)))
      ∙ ap (λ l. with_messages M (trace means.step means.reply means.foreign rules (stepped means.step s M) line last (opened_in stand l) more)) (ap (λ l. characters_in found ++ l) none ∙ append-nil (characters_in found))
      ∙ ap (λ l. with_messages M (trace means.step means.reply means.foreign rules (stepped means.step s M) line last (opened_in stand (characters_in found)) l)) (sym rest)
  trace-decided stand s line last run c more takes same all decides false ends =
      let found : Found = reference rules (in_value stand) run (Some c) in
      let M : List Message = on_line line (told_of stand found) in
      let held : List ℕ = drop found.taken run in
      let N : List Message = on_line line (text_in stand held) in
      let later : Open = opened_after stand found run in
      trace-settles means.step means.reply means.foreign rules s line last (InReference stand run) later (late_tokens stand found run) c more
      (step-decides stand run c (means.foreign s) decides ends) (λ other. brought-tells rules other later c _ (decided-in stand (characters_in found ++ held)) refl)
      ∙ ap (λ l. with_messages l (trace means.step means.reply means.foreign rules (stepped means.step s l) line last later (c ∷ more))) (ap (on_line line) (tokens-late stand found run) ∙ on_line-append line (told_of stand found) (text_in stand held))
      ∙ sym (with-two s M N line last later (c ∷ more))
      ∙ ap (with_messages M) (sym (trace-plain stand (stepped means.step s M) line last (characters_in found) held (c ∷ more) takes same (held-drop found.taken run all)))
      ∙ ap (λ l. with_messages M (trace means.step means.reply means.foreign rules (stepped means.step s M) line last (opened_in stand (characters_in found)) l)) (sym (drop-append-le found.taken run (c ∷ more) (taken-within rules (in_value stand) run c ends)))

  -- a reference after its `&`: by the held part of the text F, and the character after that
  pub trace-reference : (stand : Stand) (s : S) (line : ℕ) (last F : List ℕ) (c : ℕ) (more : List ℕ) → takes_reference stand ≡ true → IsLine line
      → All (λ entry. IsTrue (is_plain_name entry.name)) rules.references
      → after_while (is_undecided rules.references) [] F ≡ c ∷ more
      → let found : Found = reference rules (in_value stand) (run_while (is_undecided rules.references) [] F) (Some c) in
      let M : List Message = on_line line (told_of stand found) in
      trace means.step means.reply means.foreign rules s line last (InReference stand []) F
      ≡ with_messages M (trace means.step means.reply means.foreign rules (stepped means.step s M) line last (opened_in stand (characters_in found)) (drop found.taken F))
  unfolding is_undecided
  trace-reference stand s line last F c more takes same plain next =
      let run : List ℕ = run_while (is_undecided rules.references) [] F in
      let found : Found = reference rules (in_value stand) run (Some c) in
      let M : List Message = on_line line (told_of stand found) in
      let all : list_all is_held_character run ≡ true = held-undecided rules.references run plain (begins-while (is_undecided rules.references) [] F refl) in
      let parts : run ++ c ∷ more ≡ F = ap (λ l. run ++ l) (sym next) ∙ while-parts (is_undecided rules.references) [] F in
      trace-run stand s line last [] F same all
      ∙ ap (trace means.step means.reply means.foreign rules s line last (InReference stand run)) next
      ∙ trace-decided stand s line last run c more takes same all (later-decides (is_undecided rules.references) [] F c more next) (ends_number run c) refl
      ∙ ap (λ l. with_messages M (trace means.step means.reply means.foreign rules (stepped means.step s M) line last (opened_in stand (characters_in found)) (drop found.taken l))) parts

  -- ---- an `&` between items

  -- a text after which the line is the same
  pub lines-same : (line : ℕ) (text : List ℕ) → IsLine line → list_all is_held_character text ≡ true → lines_past line text ≡ line
  unfolding lines_past
  lines-same line [] same all = refl
  lines-same line (c ∷ text) same all =
      let p = and_parts (is_held_character c) (list_all is_held_character text) all in
      ap (λ n. lines_past n text) (same c (none-line_feed c p.0)) ∙ lines-same line text same p.1

  has-takes : (mode : Mode) → has_references mode ≡ true → takes_reference (InText mode) ≡ true
  has-takes mode has = of_references (λ mode. takes_reference (InText mode) ≡ true) refl (λ name. refl) mode has

  -- what is taken holds no line break
  taken-held : (v : Bool) (run : List ℕ) (c : ℕ) (more : List ℕ) → list_all is_held_character run ≡ true → (ends : Bool) → ends_number run c ≡ ends
      → list_all is_held_character (take (reference rules v run (Some c)).taken (run ++ c ∷ more)) ≡ true
  taken-held v run c more all true ends =
      let length_is : suc (length run) ≡ length (run ++ c ∷ []) = omega (arith, length-append run (c ∷ [])) in
      ap (list_all is_held_character)
      (ap (λ n. take n (run ++ c ∷ more)) (taken-ended rules v run c ends ∙ length_is) ∙ ap (take (length (run ++ c ∷ []))) (sym (append_assoc run (c ∷ []) more)) ∙ take_at (run ++ c ∷ []) more (length (run ++ c ∷ [])) refl)
      ∙ list_all-append is_held_character run (c ∷ []) ∙ rw (all, ends-held run c ends) refl
  taken-held v run c more all false ends =
      let n : ℕ = (reference rules v run (Some c)).taken in
      ap (list_all is_held_character) (take-append-le n run (c ∷ more) (taken-within rules v run c ends)) ∙ take-held n run all
    where
      take-held : (n : ℕ) (text : List ℕ) → list_all is_held_character text ≡ true → list_all is_held_character (take n text) ≡ true
      take-held zero text h = refl
      take-held (suc n) [] h = refl
      take-held (suc n) (d ∷ text) h =
          let p = and_parts (is_held_character d) (list_all is_held_character text) h in rw (p.0, take-held n text p.1) refl

  pub undecided-run : (F : List ℕ) → is_undecided rules.references (held_in rules.references F) ≡ true
  unfolding is_undecided
  undecided-run F = begins-while (is_undecided rules.references) [] F refl

  pub is-line : (input : Input) (before : List ℕ) (c : ℕ) → (c == line_feed) ≡ false → line_past (line_after input before) c ≡ line_after input before
  unfolding line_past
  is-line input before c h = rw h (line_after-last input before)

  pub lines-first : (line : ℕ) (text : List ℕ) → lines_past line (ampersand ∷ text) ≡ lines_past (line_past line ampersand) text
  unfolding lines_past
  lines-first line text = refl

  -- what the text holds, and what decides it
  pub record DecidedIn (F : List ℕ) : Type 0 where
    pub c : ℕ
    pub more : List ℕ
    pub next : after_while (is_undecided rules.references) [] F ≡ c ∷ more
    pub is : deciding_in rules.references F ≡ Some c

  pub decided-by : (F rest : List ℕ) → after_while (is_undecided rules.references) [] F ≡ rest → is_none (deciding_in rules.references F) ≡ false → DecidedIn F
  decided-by F [] e h = absurd (false≢true (sym h ∙ ap (λ l. is_none (first_or l None)) e))
  decided-by F (c ∷ more) e h = record { c = c; more = more; next = e; is = ap (λ l. first_or l None) e }

  pub taken-plain : (v : Bool) (F : List ℕ) (d : DecidedIn F) → All (λ entry. IsTrue (is_plain_name entry.name)) rules.references
      → list_all is_held_character (take (found_in rules v F).taken F) ≡ true
  taken-plain v F d plain =
      let run : List ℕ = held_in rules.references F in
      let found : Found = reference rules v run (Some d.c) in
      let all : list_all is_held_character run ≡ true = held-undecided rules.references run plain (undecided-run F) in
      let parts : run ++ d.c ∷ d.more ≡ F = ap (λ l. run ++ l) (sym d.next) ∙ while-parts (is_undecided rules.references) [] F in
      ap (λ f. list_all is_held_character (take f.taken F)) (ap (reference rules v run) d.is)
      ∙ ap (λ l. list_all is_held_character (take found.taken l)) (sym parts) ∙ taken-held v run d.c d.more all (ends_number run d.c) refl

  -- an `&` and what it takes tell what the reference comes to, before the whole text after it
  pub reference-before_all : (Z : List ℕ) (K : Start) (s : S) (Y : List ℕ) (mode : Mode) (F : List ℕ) → IsTable rules.references → IsReferenceIn rules K Y Z mode F
      → TellsBefore means rules Z K s Y (on_line (line_after K.input (ampersand ∷ [])) (told_of (InText mode) (found_in rules false F))) (start_beyond K Y (Between mode) K.last_start_tag)
  reference-before_all Z K s Y mode F table one =
      let d : DecidedIn F = decided-by F (after_while (is_undecided rules.references) [] F) refl one.decided in
      let run : List ℕ = held_in rules.references F in
      let found : Found = reference rules false run (Some d.c) in
      let same_found : found_in rules false F ≡ found = ap (reference rules false run) d.is in
      let line : ℕ = line_after K.input (ampersand ∷ []) in
      let same : IsLine line = λ c h. is-line K.input (ampersand ∷ []) c h in
      let past : line_past (line_after K.input []) ampersand ≡ line = sym (line_after-past K.input [] ampersand) in
      let all : list_all is_held_character run ≡ true = held-undecided rules.references run table.plain (undecided-run F) in
      let parts : run ++ d.c ∷ d.more ≡ F = ap (λ l. run ++ l) (sym d.next) ∙ while-parts (is_undecided rules.references) [] F in
      let taken : list_all is_held_character (take found.taken F) ≡ true =
      ap (λ l. list_all is_held_character (take found.taken l)) (sym parts) ∙ taken-held false run d.c d.more all (ends_number run d.c) refl in
      let afterwards : line_after (input_after K.input Y) [] ≡ line =
      input_after-line_none K.input Y
      ∙ ap (lines_past (line_after K.input [])) (one.text ∙ ap (λ f. ampersand ∷ take f.taken F) same_found)
      ∙ lines-first (line_after K.input []) (take found.taken F) ∙ ap (λ n. lines_past n (take found.taken F)) past ∙ lines-same line (take found.taken F) same taken in
      let M : List Message = on_line line (told_of (InText mode) found) in
      subst (λ f. TellsBefore means rules Z K s Y (on_line line (told_of (InText mode) f)) (start_beyond K Y (Between mode) K.last_start_tag)) (sym same_found)
      (trace-before means rules Z K s Y M (Between mode)
      (rw (one.starts, normalised-append K.input Y Z, one.text, one.next, take-append-drop (found_in rules false F).taken F)
      (trace-ampersand means.step means.reply means.foreign rules mode s (line_after K.input []) K.last_start_tag F one.has
      ∙ ap (λ n. trace means.step means.reply means.foreign rules s n K.last_start_tag (InReference (InText mode) []) F) past
      ∙ trace-reference (InText mode) s line K.last_start_tag F d.c d.more (has-takes mode one.has) same table.plain d.next
      ∙ rw (afterwards, same_found) refl)))

  -- an `&` and a text that leaves it undecided
  pub none-after : (F rest : List ℕ) → after_while (is_undecided rules.references) [] F ≡ rest → is_none (deciding_in rules.references F) ≡ true → after_while (is_undecided rules.references) [] F ≡ []
  none-after F [] e h = e
  none-after F (c ∷ more) e h = absurd (false≢true (ap (λ l. is_none (first_or l None)) (sym e) ∙ h))

  -- an `&` and a text that leaves it undecided tell nothing
  pub trace-open_reference : (mode : Mode) (s : S) (line : ℕ) (last F : List ℕ) → has_references mode ≡ true → IsLine (line_past line ampersand)
      → All (λ entry. IsTrue (is_plain_name entry.name)) rules.references → is_none (deciding_in rules.references F) ≡ true
      → trace means.step means.reply means.foreign rules s line last (Between mode) (ampersand ∷ F) ≡ record { messages = []; opened = InReference (InText mode) F; last_start_tag = last }
  unfolding trace
  trace-open_reference mode s line last F has same plain undecided =
      let none : after_while (is_undecided rules.references) [] F ≡ [] = none-after F (after_while (is_undecided rules.references) [] F) refl undecided in
      let run : List ℕ = held_in rules.references F in
      let whole : run ≡ F = sym (append-nil run) ∙ ap (λ l. run ++ l) (sym none) ∙ while-parts (is_undecided rules.references) [] F in
      trace-ampersand means.step means.reply means.foreign rules mode s line last F has
      ∙ trace-run (InText mode) s (line_past line ampersand) last [] F same (held-undecided rules.references run plain (undecided-run F))
      ∙ ap (trace means.step means.reply means.foreign rules s (line_past line ampersand) last (InReference (InText mode) run)) none
      ∙ ap (λ l. record { messages = []; opened = InReference (InText mode) l; last_start_tag = last }) whole
