-- The letters and digits with which a text begins, with a semicolon after them or with none: where a name of the table begins so,
-- each of them leaves the reference undecided.
use Rattle.std.proofs.Common.{◌≡◌, ℕ, ◌<◌, ◌≤◌, ◌+◌, Bool, true, false, ◌||◌, List, [], ◌∷◌, ◌++◌, take, drop, length, Some, refl, sym, ap, ◌∙◌, subst, arith}
use Rattle.std.specs.Prelude.{◌≢◌, ◌==◌, All, Result, Ok, Err, IfErr, slice_index, if◌then◌else◌}
use Rattle.std.specs.Bool.{nat_eq}
use Rattle.std.specs.Char.{is_ascii_alphanumeric}
use Rattle.std.specs.List.{list_all, starts_with}
use Rattle.std.specs.Str.{IsAscii, IsCharBoundary, IsUtf8, chars}
use Rattle.std.proofs.Math.Bool.{and-false, or-true}
use Rattle.std.proofs.lemmas.Bool.{and_parts}
use Rattle.std.proofs.lemmas.Bool.Decides.{nat_tests, Decides-eqb}
use Rattle.std.proofs.lemmas.List.{append-nil, append_assoc, take_more, take-take}
use Rattle.std.proofs.lemmas.List.Elements.{All-nil, All-cons, All-head, All-tail, All-push}
use Rattle.std.proofs.lemmas.List.Folds.{list_all-append}
use Rattle.std.proofs.lemmas.Slice.Eq.{starts_is}
use Rattle.std.proofs.lemmas.Str.{IsAscii-take, IsCharBoundary-after_ascii, IsCharBoundary-from_take, IsUtf8-drop, IsUtf8-from_ascii, chars-IsAscii, chars-nil}
use Rattle.html5reading.specs.Characters.{number_sign, semicolon}
use Rattle.html5reading.specs.Reference.{is_undecided}
use Rattle.html5reading.proofs.NameRuns.{IsNoNumber, undecided-name}
use Rattle.html5partial.specs.CharRef.{BeginsInAscii, HoldsEach, IsHeld, IsNumberHeld, IsNameFront}
use Rattle.html5partial.proofs.Held.{IsAscii-plain}
use Rattle.markup5ever.specs.NamedReferences.{NamedReference, begins_name}

abbrev IsPlain : ℕ → Type 0
IsPlain c = (number_sign ≤ c) × (c ≤ 0x7A)

-- ---- a name that begins with a text begins with each prefix of it

starts-front : (name text rest : List ℕ) → starts_with nat_eq name (text ++ rest) ≡ true → starts_with nat_eq name text ≡ true
starts-front name text rest starts =
    let after : List ℕ = drop (length (text ++ rest)) name in
    let parts : name ≡ (text ++ rest) ++ after = (starts_is Decides-eqb name (text ++ rest) (starts_with nat_eq name (text ++ rest)) refl).0 starts in
    (starts_is Decides-eqb name text (starts_with nat_eq name text) refl).1 (rest ++ after) (parts ∙ append_assoc text rest after)

begins-front : (references : List NamedReference) (text rest : List ℕ) → begins_name references (text ++ rest) ≡ true → begins_name references text ≡ true
unfolding begins_name
begins-front [] text rest begins = begins
begins-front (x ∷ references) text rest begins =
    elim (starts_with nat_eq x.name (text ++ rest)) as (λ b. starts_with nat_eq x.name (text ++ rest) ≡ b → b || begins_name references (text ++ rest) ≡ true → starts_with nat_eq x.name text || begins_name references text ≡ true) [
      | true ↦ λ starts is. rw (starts-front x.name text rest starts) refl
      | false ↦ λ starts is. rw (begins-front references text rest is) (or-true (starts_with nat_eq x.name text))
    ] refl begins

no_number-front : (held : List ℕ) (c : ℕ) (text : List ℕ) → IsNoNumber (held ++ c ∷ text) → IsNoNumber (held ++ c ∷ [])
no_number-front [] c text other = other
no_number-front (d ∷ held) c text other = other

-- if a name begins with the held text and a text, each character of the text is held, too
pub holds-each : (references : List NamedReference) (held text : List ℕ) → IsNoNumber (held ++ text) → begins_name references (held ++ text) ≡ true → All IsPlain text
    → HoldsEach references held text
unfolding HoldsEach
holds-each references held [] other begins plain = tt
holds-each references held (c ∷ text) other begins plain =
    let front : List ℕ = held ++ c ∷ [] in
    let parts : front ++ text ≡ held ++ c ∷ text = append_assoc held (c ∷ []) text in
    let whole : begins_name references (front ++ text) ≡ true = ap (begins_name references) parts ∙ begins in
    let here : is_undecided references front ≡ true = undecided-name references held c (no_number-front held c text other) ∙ rw (begins-front references front text whole) refl in
    let is = All-head IsPlain c text plain in
    (here, is.0, is.1, holds-each references front text (subst IsNoNumber (sym parts) other) whole (All-tail IsPlain c text plain))

-- ---- letters and digits, with a semicolon after them or with none

pub letters-plain : (letters : List ℕ) → list_all is_ascii_alphanumeric letters ≡ true → All IsPlain letters
letters-plain [] all = All-nil IsPlain
letters-plain (c ∷ letters) all =
    let p = and_parts (is_ascii_alphanumeric c) (list_all is_ascii_alphanumeric letters) all in
    All-cons IsPlain c letters (grind (arith, nat_tests, p.0)) (letters-plain letters p.1)

module _ (letters : List ℕ) (all : list_all is_ascii_alphanumeric letters ≡ true) where
  abbrev named : Bool → List ℕ
  named alone = letters ++ (if alone then [] else semicolon ∷ [])

  named-plain : (alone : Bool) → All IsPlain (named alone)
  named-plain true = rw (append-nil letters) (letters-plain letters all)
  named-plain false = All-push IsPlain letters semicolon (letters-plain letters all) (omega arith, omega arith)

  named-alphanumeric : (alone : Bool) → list_all is_ascii_alphanumeric (named alone) ≡ alone
  named-alphanumeric true = ap (list_all is_ascii_alphanumeric) (append-nil letters) ∙ all
  named-alphanumeric false = list_all-append is_ascii_alphanumeric letters (semicolon ∷ []) ∙ and-false (list_all is_ascii_alphanumeric letters)

-- no letter, no digit and no semicolon is the `#` of a number
first-is : (c d : ℕ) → Some c ≡ Some d → c ≡ d
first-is c d e = cc

letter-no_number : (c : ℕ) → is_ascii_alphanumeric c ≡ true → c ≢ number_sign
letter-no_number c letter = λ e. absurd (grind (arith, nat_tests))

named-no_number : (letters : List ℕ) → list_all is_ascii_alphanumeric letters ≡ true → (alone : Bool) → IsNoNumber (letters ++ (if alone then [] else semicolon ∷ []))
named-no_number [] all true = λ e. absurd cc
named-no_number [] all false = λ e. absurd (omega (arith, first-is semicolon number_sign e))
named-no_number (c ∷ letters) all alone = λ e.
    letter-no_number c (and_parts (is_ascii_alphanumeric c) (list_all is_ascii_alphanumeric letters) all).0 (first-is c number_sign e)

number-named : (text : List ℕ) → IsNoNumber text → IsNumberHeld text
number-named [] other = tt
number-named (c ∷ text) other = λ e. absurd (other (ap Some e))

-- ---- where such a text begins another

letters-ascii : (letters : List ℕ) → list_all is_ascii_alphanumeric letters ≡ true → IsAscii letters
letters-ascii letters all = IsAscii-plain letters (letters-plain letters all)

pub letters-boundary : (text : List ℕ) (letters : ℕ) → IsUtf8 text → letters ≤ length text → list_all is_ascii_alphanumeric (take letters text) ≡ true → IsCharBoundary text letters
letters-boundary text letters utf8 within all =
    IsCharBoundary-from_take text letters utf8 within (IsUtf8-from_ascii (take letters text) (letters-ascii (take letters text) all))

pub semicolon-boundary : (text : List ℕ) (at : ℕ) → IsUtf8 text → at < length text → slice_index text at ≡ semicolon → IsCharBoundary text (at + 1)
semicolon-boundary text at utf8 within is = IsCharBoundary-after_ascii text at utf8 within (omega (arith, is))

-- the letters with the semicolon after them
pub semicolon-parts : (text : List ℕ) (at : ℕ) → at < length text → slice_index text at ≡ semicolon → take (at + 1) text ≡ take at text ++ semicolon ∷ []
semicolon-parts text at within is = take_more text at 0 within ∙ ap (λ c. take at text ++ c ∷ []) is

-- what begins so is held, and each of its characters leaves the reference undecided
module _ (references : List NamedReference) (text : List ℕ) (letters bytes : ℕ) (front : IsNameFront references text letters bytes) (some : bytes ≢ 0)
    (all : list_all is_ascii_alphanumeric (take letters text) ≡ true) where
  abbrev alone : Bool
  alone = bytes == letters

  abbrev letters_there : List ℕ
  letters_there = take letters text

  front-plain : All IsPlain (take bytes text)
  front-plain = rw (front.parts some) (named-plain letters_there all alone)

  front-no_number : IsNoNumber (take bytes text)
  front-no_number = rw (front.parts some) (named-no_number letters_there all alone)

  front-ascii : IsAscii (take bytes text)
  front-ascii = IsAscii-plain (take bytes text) front-plain

  pub front-boundary : IsUtf8 text → IsCharBoundary text bytes
  front-boundary utf8 = IsCharBoundary-from_take text bytes utf8 front.within (IsUtf8-from_ascii (take bytes text) front-ascii)

  pub front-chars : chars (take bytes text) ≡ take bytes text
  front-chars = chars-IsAscii (take bytes text) front-ascii

  pub front-held : IsHeld (take bytes text) alone
  front-held = record {
    plain = front-plain;
    number = number-named (take bytes text) front-no_number;
    alphanumeric = sym (ap (list_all is_ascii_alphanumeric) (front.parts some) ∙ named-alphanumeric letters_there all alone);
  }

  pub front-holds : HoldsEach references [] (chars (take bytes text))
  front-holds = rw front-chars (holds-each references [] (take bytes text) front-no_number (front.begins some) front-plain)

  pub front-begins : IsUtf8 text → BeginsInAscii text
  front-begins utf8 =
      let filled : 1 ≤ bytes = omega (arith, some) in
      let within : 1 ≤ length text = omega (arith, filled, front.within) in
      let ascii : IsAscii (take 1 text) = subst IsAscii (take-take 1 bytes text filled) (IsAscii-take (take bytes text) 1 front-ascii) in
      record {
        filled = within;
        ascii = ascii;
        rest_utf8 = IsUtf8-drop text 1 utf8 (IsCharBoundary-from_take text 1 utf8 within (IsUtf8-from_ascii (take 1 text) ascii));
      }

-- ---- as the function finds it: when nothing is held, and when nothing more is

pub where-refused : {T E : Type 0} (P : Type 0) (r : Result T E) → P → IfErr r (λ e. P)
where-refused P (Ok x) p = tt
where-refused P (Err e) p = p

pub nothing-held : (held : List ℕ) → length held ≡ 0 → held ≡ []
nothing-held [] empty = refl
nothing-held (c ∷ held) empty = absurd (omega (arith, empty))

pub holds-none : (references : List NamedReference) (held : List ℕ) → HoldsEach references held (chars [])
unfolding HoldsEach
holds-none references held = rw chars-nil tt

pub held-none : (held : List ℕ) → held ≡ held ++ chars []
held-none held = sym (ap (λ l. held ++ l) chars-nil ∙ append-nil held)
