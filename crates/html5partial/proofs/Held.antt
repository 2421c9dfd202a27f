-- The held text of a reference: how it goes on with one more character, and which characters decide it.
use Rattle.std.proofs.Common.{◌≡◌, ℕ, ◌<◌, ◌≤◌, Bool, true, false, ◌&&◌, ◌||◌, List, [], ◌∷◌, ◌++◌, length, Option, None, Some, refl, sym, ap, ◌∙◌, subst, Bor, arith}
use Rattle.std.specs.Prelude.{◌≢◌, ◌==◌, All, MatchOption}
use Rattle.std.specs.Char.{is_ascii_alphanumeric}
use Rattle.std.specs.List.{list_all}
use Rattle.std.specs.Option.{is_none}
use Rattle.std.specs.Str.{IsAscii}
use Rattle.std.proofs.lemmas.Bool.{ne_eqb}
use Rattle.std.proofs.lemmas.Bool.Decides.{nat_tests}
use Rattle.std.proofs.lemmas.List.Elements.{All-push, All-weaker}
use Rattle.std.proofs.lemmas.List.Folds.{list_all-append}
use Rattle.std.proofs.lemmas.Str.Ascii.{IsAscii-from_all}
use Rattle.html5reading.specs.Characters.{number_sign, semicolon}
use Rattle.html5reading.specs.Reference.{first_or, is_number, is_undecided, longest_name}
use Rattle.html5partial.specs.CharRef.{IsHeld, IsNumberHeld}
use Rattle.markup5ever.specs.NamedReferences.{NamedReference, IsTable, begins_name}
use Rattle.html5partial.proofs.Numbers.{is_number-nil}
use Rattle.html5reading.proofs.NameRuns.{undecided-name, odd-within}
use Rattle.html5reading.proofs.TableNames.{is_name_character, none_begins}

abbrev IsPlain : ℕ → Type 0
IsPlain c = (number_sign ≤ c) × (c ≤ 0x7A)

pub IsAscii-plain : (text : List ℕ) → All IsPlain text → IsAscii text
IsAscii-plain text plain = IsAscii-from_all text (All-weaker IsPlain (λ c. c < 128) (λ c p. omega (arith, p.1)) text plain)

-- ---- numbers

pub number-held : (held text : List ℕ) (is : Bool) (number : Option (Bor (List ℕ))) → text ≡ held → IsHeld held is
    → MatchOption number ((rest : List ℕ) → text ≢ number_sign ∷ rest) (λ x. text ≡ number_sign ∷ x.now)
    → MatchOption number (first_or held None ≢ Some number_sign) (λ x. (held ≡ number_sign ∷ x.now) × (is_number x.now ≡ true))
number-held [] text is None same ok other = λ e. absurd cc
number-held (c ∷ held) text is None same ok other = λ e. let first : c ≡ number_sign = cc in other held (same ∙ ap (λ d. d ∷ held) first)
number-held held text is (Some x) same ok begins =
    let is_begun : held ≡ number_sign ∷ x.now = sym same ∙ begins in
    let number : IsNumberHeld (number_sign ∷ x.now) = subst IsNumberHeld is_begun ok.number in
    (is_begun, number refl)

pub held-number : (held : List ℕ) (c : ℕ) (is : Bool) → IsHeld held is → IsPlain c → IsNumberHeld (held ++ c ∷ []) → first_or (held ++ c ∷ []) None ≡ Some number_sign → IsHeld (held ++ c ∷ []) false
held-number [] c is ok plain number first =
    let same : c ≡ number_sign = cc in
    record { plain = All-push IsPlain [] c ok.plain plain; number = number; alphanumeric = rw same refl }
held-number (d ∷ held) c is ok plain number first =
    let same : d ≡ number_sign = cc in
    record { plain = All-push IsPlain (d ∷ held) c ok.plain plain; number = number; alphanumeric = rw same refl }

pub undecided-number : (references : List NamedReference) (held number : List ℕ) (c : ℕ) → held ≡ number_sign ∷ number → is_undecided references (held ++ c ∷ []) ≡ is_number (number ++ c ∷ [])
unfolding is_undecided
undecided-number references held number c is = rw is refl

-- ---- names

pub plain-name : (c : ℕ) → (is_ascii_alphanumeric c || (c == semicolon)) ≡ true → IsPlain c × (c ≢ number_sign)
plain-name c is = (grind (arith, nat_tests), λ e. absurd (grind (arith, nat_tests)))

number-name : (held : List ℕ) (c : ℕ) → first_or held None ≢ Some number_sign → c ≢ number_sign → IsNumberHeld (held ++ c ∷ [])
number-name [] c other wrong = λ e. absurd (wrong e)
number-name (d ∷ held) c other wrong = λ e. absurd (other (ap Some e))

and-true : (a b : Bool) → a && (b && true) ≡ a && b
and-true true true = refl
and-true true false = refl
and-true false b = refl

pub alphanumeric-push : (held : List ℕ) (c : ℕ) (is : Bool) → IsHeld held is → (is && is_ascii_alphanumeric c) ≡ list_all is_ascii_alphanumeric (held ++ c ∷ [])
alphanumeric-push held c is ok =
    ap (λ b. b && is_ascii_alphanumeric c) ok.alphanumeric
    ∙ sym (and-true (list_all is_ascii_alphanumeric held) (is_ascii_alphanumeric c))
    ∙ sym (list_all-append is_ascii_alphanumeric held (c ∷ []))

pub held-name : (held : List ℕ) (c : ℕ) (is all : Bool) → IsHeld held is → first_or held None ≢ Some number_sign → (is_ascii_alphanumeric c || (c == semicolon)) ≡ true
    → all ≡ (is && is_ascii_alphanumeric c) → IsHeld (held ++ c ∷ []) all
held-name held c is all ok other name same =
    let plain = plain-name c name in
    record {
      plain = All-push IsPlain held c ok.plain plain.0;
      number = number-name held c other plain.1;
      alphanumeric = same ∙ alphanumeric-push held c is ok;
    }

no_number-push : (held : List ℕ) (c : ℕ) → first_or held None ≢ Some number_sign → c ≢ number_sign → first_or (held ++ c ∷ []) None ≢ Some number_sign
no_number-push [] c other wrong = λ e. wrong cc
no_number-push (d ∷ held) c other wrong = other

-- ---- a character that no name has

-- a character that no name has decides a reference
pub undecided-odd : (references : List NamedReference) (held : List ℕ) (c : ℕ) → IsTable references → first_or held None ≢ Some number_sign → ((length held == 0) && (c == number_sign)) ≡ false
    → (is_ascii_alphanumeric c || (c == semicolon)) ≡ false → is_undecided references (held ++ c ∷ []) ≡ false
unfolding is_undecided is_name_character
undecided-odd references [] c table other wrong odd =
    let first : (c == number_sign) ≡ false = wrong in
    let letter : is_ascii_alphanumeric c ≡ false = grind (arith, nat_tests) in
    let none : begins_name references (c ∷ []) ≡ false = none_begins references (c ∷ []) table.plain (odd-within is_name_character [] c [] odd) in
    rw (first, none, letter) refl
undecided-odd references (d ∷ held) c table other wrong odd =
    let first : d ≢ number_sign = λ e. other (ap Some e) in
    let letter : is_ascii_alphanumeric c ≡ false = grind (arith, nat_tests) in
    let none : begins_name references (d ∷ (held ++ c ∷ [])) ≡ false = none_begins references (d ∷ (held ++ c ∷ [])) table.plain (odd-within is_name_character (d ∷ held) c [] odd) in
    rw (ne_eqb d number_sign first, none, odd-within is_ascii_alphanumeric (d ∷ held) c [] letter) refl

-- ---- as functions find them: the bytes that are held before and after a call

pub pushed_bytes : (held pushed bytes : List ℕ) (c : ℕ) → pushed ≡ held ++ bytes → bytes ≡ c ∷ [] → pushed ≡ held ++ c ∷ []
pushed_bytes held pushed bytes c push ascii = push ∙ ap (λ l. held ++ l) ascii

pub held-number_pushed : (held now pushed : List ℕ) (c : ℕ) (is : Bool) → held ≡ now → pushed ≡ held ++ c ∷ [] → IsHeld held is → IsPlain c → IsNumberHeld (now ++ c ∷ [])
    → first_or (now ++ c ∷ []) None ≡ Some number_sign → IsHeld pushed false
held-number_pushed held now pushed c is view push ok plain number first =
    rw push (held-number held c is ok plain (subst (λ h. IsNumberHeld (h ++ c ∷ [])) (sym view) number) (subst (λ h. first_or (h ++ c ∷ []) None ≡ Some number_sign) (sym view) first))

pub held-name_pushed : (held now pushed : List ℕ) (c : ℕ) (is all : Bool) → held ≡ now → pushed ≡ held ++ c ∷ [] → IsHeld held is → first_or now None ≢ Some number_sign
    → (is_ascii_alphanumeric c || (c == semicolon)) ≡ true → all ≡ (is && is_ascii_alphanumeric c) → IsHeld pushed all
held-name_pushed held now pushed c is all view push ok other name same =
    rw push (held-name held c is all ok (subst (λ h. first_or h None ≢ Some number_sign) (sym view) other) name same)

pub undecided-name_pushed : (references : List NamedReference) (held now pushed : List ℕ) (c : ℕ) (is all undecided : Bool) → held ≡ now → pushed ≡ held ++ c ∷ [] → IsHeld held is
    → first_or now None ≢ Some number_sign → (is_ascii_alphanumeric c || (c == semicolon)) ≡ true → all ≡ (is && is_ascii_alphanumeric c)
    → undecided ≡ (begins_name references pushed || (all && is_none (longest_name references pushed))) → undecided ≡ is_undecided references (now ++ c ∷ [])
undecided-name_pushed references held now pushed c is all undecided view push ok other name same decides =
    let here : first_or held None ≢ Some number_sign = subst (λ h. first_or h None ≢ Some number_sign) (sym view) other in
    decides
    ∙ ap (λ text. begins_name references text || (all && is_none (longest_name references text))) push
    ∙ ap (λ b. begins_name references (held ++ c ∷ []) || (b && is_none (longest_name references (held ++ c ∷ [])))) (same ∙ alphanumeric-push held c is ok)
    ∙ sym (undecided-name references held c (no_number-push held c here (plain-name c name).1))
    ∙ ap (λ h. is_undecided references (h ++ c ∷ [])) view

-- a `#` after nothing
pub begun-number : (references : List NamedReference) (held : List ℕ) (c : ℕ) → ((length held == 0) && (c == number_sign)) ≡ true → IsNumberHeld (held ++ c ∷ []) × (is_undecided references (held ++ c ∷ []) ≡ true)
unfolding is_undecided
begun-number references [] c begins =
    let same : c ≡ number_sign = grind (arith, nat_tests) in
    ((λ e. is_number-nil), rw same is_number-nil)
begun-number references (d ∷ held) c begins = absurd (grind (arith, nat_tests))
