-- What a reference tells is lawful: by a table its characters are not NUL, and nor are those that are held.
use Rattle.std.proofs.Common.{◌≡◌, ℕ, zero, suc, Bool, true, false, not, ◌||◌, ◌&&◌, List, [], ◌∷◌, ◌++◌, refl, sym, ◌∙◌, map, drop, length, Option, None, Some, arith}
use Rattle.std.specs.Prelude.{◌==◌, nat_eq, All, IsTrue, IfSome, if◌then◌else◌}
use Rattle.std.specs.Bool.{nat_lt}
use Rattle.std.specs.Char.{is_ascii_alphanumeric, is_ascii_digit, is_ascii_hexdigit}
use Rattle.std.specs.List.{list_all, starts_with}
use Rattle.std.specs.Map.{lookup}
use Rattle.std.specs.Option.{is_none, unwrap_or, option_map_or}
use Rattle.std.proofs.lemmas.Bool.{and_parts, false≢true}
use Rattle.std.proofs.lemmas.Bool.Decides.{nat_tests}
use Rattle.std.proofs.lemmas.List.Elements.{All-head, All-tail}
use Rattle.html5ever_interface.specs.Token.{Told}
use Rattle.html5reading.specs.Characters.{null, number_sign, ampersand, replacement_character, is_no_character}
use Rattle.html5reading.specs.ErrorText.{where_true}
use Rattle.html5reading.specs.Lawful.{has_no_null, IsLawful}
use Rattle.html5reading.specs.RawText.{texts}
use Rattle.html5reading.specs.Reference.{Found, in_value, reference, number_reference, named_reference, no_name, unended_number, has_digits, character_of_number, longest_name, longer, is_ended, goes_on, first_or, second_of, is_undecided, is_number, number_value, is_x, text_in, told_of, characters_in, held_text, late_tokens}
use Rattle.html5reading.specs.Slice.{Late, tokens_of_late}
use Rattle.html5reading.specs.Start.{Stand, Rules}
use Rattle.html5reading.specs.Start.Stand.{InText, InAttribute}
use Rattle.html5reading.proofs.LawfulBytes.{no_null-encode}
use Rattle.html5reading.proofs.TableNames.{is_name_character, none_begins}
use Rattle.markup5ever.specs.C1.{c1_characters, character_of_c1}
use Rattle.markup5ever.specs.NamedReferences.{NamedReference, IsTable, begins_name, has_zero, is_plain_name}

unfoldable pub AllLawful : List Told → Type 0
AllLawful [] = Unit {0}
AllLawful (t ∷ ts) = IsLawful t × AllLawful ts

pub lawful-append : (ts us : List Told) → AllLawful ts → AllLawful us → AllLawful (ts ++ us)
unfolding AllLawful
lawful-append [] us f g = g
lawful-append (t ∷ ts) us f g = (f.0, lawful-append ts us f.1 g)

pub lawful-where : (holds : Bool) (error : Told) → IsLawful error → AllLawful (where_true holds error)
unfolding AllLawful
lawful-where true error h = (h, tt)
lawful-where false error h = tt

-- ---- characters without NUL

not_true : (b : Bool) → not b ≡ true → b ≡ false
not_true true e = absurd (false≢true e)
not_true false e = refl

pub no_null-parts : (c : ℕ) (text : List ℕ) → has_no_null (c ∷ text) ≡ true → ((c == null) ≡ false) × (has_no_null text ≡ true)
unfolding has_no_null
no_null-parts c text h =
    let parts = and_parts (not (c == null)) (has_no_null text) h in
    (not_true (c == null) parts.0, parts.1)

pub no_null-cons : (c : ℕ) (text : List ℕ) → (c == null) ≡ false → has_no_null text ≡ true → has_no_null (c ∷ text) ≡ true
unfolding has_no_null
no_null-cons c text f g = rw (f, g) refl

pub no_null-nil : has_no_null [] ≡ true
unfolding has_no_null
no_null-nil = refl

no_null-drop : (n : ℕ) (text : List ℕ) → has_no_null text ≡ true → has_no_null (drop n text) ≡ true
no_null-drop zero text h = h
no_null-drop (suc n) [] h = no_null-nil
no_null-drop (suc n) (c ∷ text) h = no_null-drop n text (no_null-parts c text h).1

no_null-all : (p : ℕ → Bool) → ((c : ℕ) → p c ≡ true → (c == null) ≡ false) → (text : List ℕ) → list_all p text ≡ true → has_no_null text ≡ true
no_null-all p other [] all = no_null-nil
no_null-all p other (c ∷ text) all =
    let parts = and_parts (p c) (list_all p text) all in
    no_null-cons c text (other c parts.0) (no_null-all p other text parts.1)

pub lawful-texts : (characters : List ℕ) → has_no_null characters ≡ true → AllLawful (texts characters)
unfolding AllLawful
lawful-texts [] h = tt
lawful-texts (c ∷ characters) h =
    let parts = no_null-parts c characters h in
    (no_null-encode c parts.0, lawful-texts characters parts.1)

-- ---- the held text

alphanumeric-other : (c : ℕ) → is_ascii_alphanumeric c ≡ true → (c == null) ≡ false
alphanumeric-other c h = grind (arith, nat_tests)

digit-other : (c : ℕ) → is_ascii_digit c ≡ true → (c == null) ≡ false
digit-other c h = grind (arith, nat_tests)

hexdigit-other : (c : ℕ) → is_ascii_hexdigit c ≡ true → (c == null) ≡ false
hexdigit-other c h = grind (arith, nat_tests)

x-other : (c : ℕ) → is_x c ≡ true → (c == null) ≡ false
x-other c h = grind (arith, nat_tests)

name-other : (c : ℕ) → is_name_character c ≡ true → (c == null) ≡ false
unfolding is_name_character
name-other c h = grind (arith, nat_tests)

sign-other : (c : ℕ) → (c == number_sign) ≡ true → (c == null) ≡ false
sign-other c h = grind (arith, nat_tests)

no_null-number : (text : List ℕ) → is_number text ≡ true → has_no_null text ≡ true
unfolding is_number
no_null-number [] all = no_null-nil
no_null-number (c ∷ text) all =
    elim (is_x c) as (λ b. is_x c ≡ b → list_all (λ d. if b then is_ascii_hexdigit d else is_ascii_digit d) (if b then text else c ∷ text) ≡ true → has_no_null (c ∷ text) ≡ true) [
      | true ↦ λ x digits. no_null-cons c text (x-other c x) (no_null-all is_ascii_hexdigit hexdigit-other text digits)
      | false ↦ λ other digits. no_null-all is_ascii_digit digit-other (c ∷ text) digits
    ] refl all

or_parts : (p q : Bool) (R : Type 0) → (p ≡ true → R) → (q ≡ true → R) → (p || q) ≡ true → R
or_parts true q R f g h = f refl
or_parts false q R f g h = g h

begun-no_null : (references : List NamedReference) (text : List ℕ) → All (λ entry. IsTrue (is_plain_name entry.name)) references → begins_name references text ≡ true → has_no_null text ≡ true
begun-no_null references text plain begins =
    elim (list_all is_name_character text) as (λ b. list_all is_name_character text ≡ b → has_no_null text ≡ true) [
      | true ↦ λ named. no_null-all is_name_character name-other text named
      | false ↦ λ odd. absurd (false≢true (sym (none_begins references text plain odd) ∙ begins))
    ] refl

-- what leaves a reference undecided has no NUL
pub no_null-undecided : (references : List NamedReference) (held : List ℕ) → All (λ entry. IsTrue (is_plain_name entry.name)) references
    → is_undecided references held ≡ true → has_no_null held ≡ true
unfolding is_undecided
no_null-undecided references [] plain h = no_null-nil
no_null-undecided references (c ∷ held) plain h =
    elim (c == number_sign) as (λ b. (c == number_sign) ≡ b
    → (if b then is_number held else begins_name references (c ∷ held) || (list_all is_ascii_alphanumeric (c ∷ held) && is_none (longest_name references (c ∷ held)))) ≡ true
    → has_no_null (c ∷ held) ≡ true) [
      | true ↦ λ sign number. no_null-cons c held (sign-other c sign) (no_null-number held number)
      | false ↦ λ other named. or_parts (begins_name references (c ∷ held)) _ (has_no_null (c ∷ held) ≡ true)
          (begun-no_null references (c ∷ held) plain)
          (λ unknown. no_null-all is_ascii_alphanumeric alphanumeric-other (c ∷ held) (and_parts (list_all is_ascii_alphanumeric (c ∷ held)) (is_none (longest_name references (c ∷ held))) unknown).0)
          named
    ] refl h

-- ---- what a reference comes to

abbrev IsPlain : Found → Type 0
IsPlain found = AllLawful found.errors × (has_no_null (characters_in found) ≡ true)

plain-if : (test : Bool) (p q : Found) → (test ≡ true → IsPlain p) → (test ≡ false → IsPlain q) → IsPlain (if test then p else q)
plain-if true p q f g = f refl
plain-if false p q f g = g refl

no_null-ampersand : has_no_null (ampersand ∷ []) ≡ true
unfolding has_no_null
no_null-ampersand = refl

lookup-other : (n : ℕ) (entries : List (ℕ × ℕ)) → list_all (λ e. not (e.1 == null)) entries ≡ true → IfSome (lookup (nat_eq n) entries) (λ c. (c == null) ≡ false)
lookup-other n [] all = tt
lookup-other n (e ∷ entries) all =
    let parts = and_parts (not (e.1 == null)) (list_all (λ f. not (f.1 == null)) entries) all in
    elim (nat_eq n e.0) as (λ b. IfSome (if b then Some e.1 else lookup (nat_eq n) entries) (λ c. (c == null) ≡ false)) [
      | true ↦ not_true (e.1 == null) parts.0
      | false ↦ lookup-other n entries parts.1
    ]

c1-other : (n : ℕ) → IfSome (character_of_c1 n) (λ c. (c == null) ≡ false)
unfolding character_of_c1
c1-other n = lookup-other n c1_characters refl

or-other : (o : Option ℕ) (v : ℕ) → IfSome o (λ c. (c == null) ≡ false) → (v == null) ≡ false → (unwrap_or o v == null) ≡ false
or-other None v f g = g
or-other (Some c) v f g = f

or_false : (p q : Bool) → (p || q) ≡ false → p ≡ false
or_false true q h = absurd (false≢true (sym h))
or_false false q h = refl

number-other : (v : ℕ) → (character_of_number v == null) ≡ false
unfolding character_of_number
number-other v =
    elim ((v == null) || is_no_character v) as (λ b. ((v == null) || is_no_character v) ≡ b → ((if b then replacement_character else unwrap_or (character_of_c1 v) v) == null) ≡ false) [
      | true ↦ λ none. refl
      | false ↦ λ some. or-other (character_of_c1 v) v (c1-other v) (or_false (v == null) (is_no_character v) some)
    ] refl

lawful-unended : (next : Option ℕ) → AllLawful (unended_number next)
unfolding unended_number AllLawful
lawful-unended None = (tt, tt)
lawful-unended (Some c) = lawful-where _ _ tt

plain-number : (exact : Bool) (text : List ℕ) (next : Option ℕ) → IsPlain (number_reference exact text next)
unfolding number_reference AllLawful
plain-number exact text next =
    plain-if (has_digits text) _ _
    (λ digits. (lawful-append (unended_number next) _ (lawful-unended next) (lawful-where _ _ tt), no_null-cons (character_of_number (number_value text)) [] (number-other (number_value text)) no_null-nil))
    (λ none. ((tt, tt), no_null-ampersand))

plain-no_name : (exact : Bool) (held : List ℕ) (next : Option ℕ) → IsPlain (no_name exact held next)
unfolding no_name AllLawful
plain-no_name exact [] next = (tt, no_null-ampersand)
plain-no_name exact (c ∷ held) None = (tt, no_null-ampersand)
plain-no_name exact (c ∷ held) (Some d) = (lawful-where _ _ tt, no_null-ampersand)

-- the characters of an entry that has no NUL
no_null-second : (o : Option ℕ) → option_map_or (λ c. c == 0) o false ≡ false → has_no_null (second_of o) ≡ true
no_null-second None h = no_null-nil
no_null-second (Some c) h = no_null-cons c [] h no_null-nil

no_null-entry : (entry : NamedReference) → has_zero entry ≡ false → has_no_null (entry.first ∷ second_of entry.second) ≡ true
unfolding has_zero
no_null-entry entry h =
    no_null-cons entry.first (second_of entry.second) (or_false (entry.first == 0) _ h) (no_null-second entry.second (or_right (entry.first == 0) _ h))
  where
    or_right : (p q : Bool) → (p || q) ≡ false → q ≡ false
    or_right true q h = absurd (false≢true (sym h))
    or_right false q h = h

plain-named : (exact in_value : Bool) (held : List ℕ) (next : Option ℕ) (entry : Option NamedReference) → IfSome entry (λ e. has_zero e ≡ false)
    → IsPlain (named_reference exact in_value held next entry)
unfolding named_reference AllLawful
plain-named exact in_value held next None nonzero = plain-no_name exact held next
plain-named exact in_value held next (Some entry) nonzero =
    plain-if (is_ended entry.name) _ _ (λ ended. (tt, no_null-entry entry nonzero))
    (λ open_name. plain-if (in_value && goes_on (first_or (drop (length entry.name) held) next)) _ _ (λ going. (tt, no_null-ampersand)) (λ ends. ((tt, tt), no_null-entry entry nonzero)))

-- the longest name of a table stands for a character other than NUL
longest-nonzero : (references : List NamedReference) (text : List ℕ) → All (λ entry. has_zero entry ≡ false) references → IfSome (longest_name references text) (λ e. has_zero e ≡ false)
unfolding longest_name
longest-nonzero [] text nonzero = tt
longest-nonzero (entry ∷ references) text nonzero =
    let first : has_zero entry ≡ false = All-head (λ e. has_zero e ≡ false) entry references nonzero in
    let rest : IfSome (longest_name references text) (λ e. has_zero e ≡ false) = longest-nonzero references text (All-tail (λ e. has_zero e ≡ false) entry references nonzero) in
    elim (starts_with nat_eq text entry.name) as (λ b. IfSome (if b then Some (longer entry (longest_name references text)) else longest_name references text) (λ e. has_zero e ≡ false)) [
      | true ↦ longer-nonzero entry (longest_name references text) first rest
      | false ↦ rest
    ]
  where
    longer-nonzero : (entry : NamedReference) (o : Option NamedReference) → has_zero entry ≡ false → IfSome o (λ e. has_zero e ≡ false) → has_zero (longer entry o) ≡ false
    longer-nonzero entry None f g = f
    longer-nonzero entry (Some other) f g = elim (nat_lt (length entry.name) (length other.name)) as (λ b. has_zero (if b then other else entry) ≡ false) [
      | true ↦ g
      | false ↦ f
    ]

plain-reference : (rules : Rules) (in_value : Bool) (held : List ℕ) (next : Option ℕ) → IsTable rules.references → IsPlain (reference rules in_value held next)
unfolding reference AllLawful
plain-reference rules in_value [] next table = (tt, no_null-ampersand)
plain-reference rules in_value (c ∷ held) next table =
    plain-if (c == number_sign) _ _ (λ sign. plain-number rules.exact held next)
    (λ name. plain-named rules.exact in_value (c ∷ held) next (longest_name rules.references (c ∷ held)) (longest-nonzero rules.references (c ∷ held) table.nonzero))

-- ---- what is sent of it

lawful-text_in : (stand : Stand) (characters : List ℕ) → has_no_null characters ≡ true → AllLawful (text_in stand characters)
unfolding AllLawful
lawful-text_in (InText mode) characters h = lawful-texts characters h
lawful-text_in (InAttribute kind tag) characters h = tt

lawful-late_append : (l m : List Late) → AllLawful (tokens_of_late l) → AllLawful (tokens_of_late m) → AllLawful (tokens_of_late (l ++ m))
unfolding AllLawful
lawful-late_append [] m f g = g
lawful-late_append (x ∷ l) m f g = (f.0, lawful-late_append l m f.1 g)

lawful-late_map : (back : ℕ) (is_at is_held : Bool) (tokens : List Told) → AllLawful tokens
    → AllLawful (tokens_of_late (map (λ token. record { token = token; back = back; is_at = is_at; is_held = is_held }) tokens))
unfolding AllLawful
lawful-late_map back is_at is_held [] f = tt
lawful-late_map back is_at is_held (t ∷ tokens) f = (f.0, lawful-late_map back is_at is_held tokens f.1)

lawful-held_text : (stand : Stand) (held : List ℕ) → has_no_null held ≡ true → AllLawful (tokens_of_late (held_text stand held))
unfolding held_text AllLawful
lawful-held_text stand [] h = tt
lawful-held_text stand (c ∷ held) h =
    let parts = no_null-parts c held h in
    lawful-late_append _ _
    (lawful-late_map _ _ _ (text_in stand (c ∷ [])) (lawful-text_in stand (c ∷ []) (no_null-cons c [] parts.0 no_null-nil)))
    (lawful-held_text stand held parts.1)

pub lawful-late_tokens : (rules : Rules) (stand : Stand) (held : List ℕ) (next : Option ℕ) → IsTable rules.references → has_no_null held ≡ true
    → AllLawful (tokens_of_late (late_tokens stand (reference rules (in_value stand) held next) held))
lawful-late_tokens rules stand held next table h =
    let found : Found = reference rules (in_value stand) held next in
    let plain : IsPlain found = plain-reference rules (in_value stand) held next table in
    lawful-late_append _ _
    (lawful-late_map _ _ _ (told_of stand found) (lawful-append found.errors _ plain.0 (lawful-text_in stand (characters_in found) plain.1)))
    (lawful-held_text stand (drop found.taken held) (no_null-drop found.taken held h))
