-- What the text of an entry says.
use Rattle.std.proofs.Common.{◌≡◌, ◌≢◌, ℕ, ◌<◌, ◌≤◌, ◌^◌, true, false, List, [], ◌∷◌, length, Bor, Option, None, Some, Result, Ok, Err, refl, ap, inl, inr, lit<, arith}
use Rattle.std.specs.Prelude.{◌==◌, nat_lt, MatchOption, SomeIff, if◌then◌else◌, option_map}
use Rattle.std.specs.Option.{option_and_then}
use Rattle.std.specs.Char.{IsScalar, InScalarRange, OutOfScalarRange, digit_value, is_ascii_hexdigit}
use Rattle.std.specs.List.{list_all, position_or_len}
use Rattle.std.specs.Result.{OkIff}
use Rattle.std.specs.Str.Parse.{AllDigits, ParsesUnsigned, digits_value, without_leading_plus}
use Rattle.std.specs.Str.Pattern.{FindsChar, SplitsAtFirstByte}
use Rattle.std.proofs.lemmas.Bool.{and_parts, cases_lt, le-ltb, lt-ltb}
use Rattle.std.proofs.lemmas.Bool.Decides.{nat_tests}
use Rattle.std.proofs.lemmas.Str.Parse.{without_leading_plus_none}
use Rattle.markup5ever.specs.NamedReferences.{NamedReference}
use Rattle.html5table.specs.Listed.{character_said, is_character, is_hexadecimal, characters_said, characters_said_by, entry_said, entry_with, parts_round}

-- ---- a character

-- the character of a number, where it is that of one
abbrev pub character_at : ℕ → Option ℕ
character_at number = if is_character number then Some number else None

pub character_at-from_u32 : (number : ℕ) (r : Option ℕ) → SomeIff r (IsScalar number) number
    → MatchOption r (OutOfScalarRange number) (λ _. InScalarRange number) → r ≡ character_at number
character_at-from_u32 number None value cases =
    let out : is_character number ≡ false = grind (arith, nat_tests) in
    rw out refl
character_at-from_u32 number (Some c) value cases =
    let fits : is_character number ≡ true = grind (arith, nat_tests) in
    rw fits (ap Some value.1)

digit-hexadecimal : (c : ℕ) → is_ascii_hexdigit c ≡ true → digit_value c < 16
digit-hexadecimal c hex = grind (arith, nat_tests)

no_plus : (c : ℕ) → is_ascii_hexdigit c ≡ true → c ≢ 43
no_plus c hex = λ e. grind (arith, nat_tests)

AllDigits-hexadecimal : (digits : List ℕ) → list_all is_ascii_hexdigit digits ≡ true → AllDigits 16 digits
AllDigits-hexadecimal [] all = tt
AllDigits-hexadecimal (c ∷ digits) all =
    let parts = and_parts (is_ascii_hexdigit c) (list_all is_ascii_hexdigit digits) all in
    (digit-hexadecimal c parts.0, AllDigits-hexadecimal digits parts.1)

plain_digits : (digits : List ℕ) → list_all is_ascii_hexdigit digits ≡ true → without_leading_plus digits ≡ digits
plain_digits [] all = refl
plain_digits (c ∷ digits) all =
    without_leading_plus_none (c ∷ digits) (no_plus c (and_parts (is_ascii_hexdigit c) (list_all is_ascii_hexdigit digits) all).0)

-- the character of a parsed number
abbrev pub parsed_character : {E : Type 0} → Result ℕ E → Option ℕ
parsed_character (Ok number) = character_at number
parsed_character (Err e) = None

large : (number : ℕ) → 2 ^ 32 ≤ number → is_character number ≡ false
large number high = grind (arith, nat_tests)

-- digits that were parsed are the character that they say
said-parsed : {E : Type 0} (digits : List ℕ) (r : Result ℕ E) → is_hexadecimal digits ≡ true
    → OkIff r (((0 < length digits) × AllDigits 16 digits) × (digits_value 16 digits < 2 ^ 32)) (digits_value 16 digits)
    → parsed_character r ≡ character_said digits
unfolding character_said
said-parsed digits (Ok number) hex parses = rw (hex, parses.1) refl
said-parsed digits (Err e) hex parses =
    let parts = and_parts _ (list_all is_ascii_hexdigit digits) hex in
    let some : 0 < length digits = grind (arith, nat_tests) in
    let high : 2 ^ 32 ≤ digits_value 16 digits = elim (cases_lt (digits_value 16 digits) (2 ^ 32)) [
      | inl low ↦ absurd (parses ((some, AllDigits-hexadecimal digits parts.1), low))
      | inr high ↦ high
    ] in
    rw (hex, large (digits_value 16 digits) high) refl

pub character_said-parsed : {E : Type 0} (digits : List ℕ) (r : Result ℕ E) → is_hexadecimal digits ≡ true → ParsesUnsigned 32 16 digits r
    → parsed_character r ≡ character_said digits
character_said-parsed digits r hex parses =
    said-parsed digits r hex (rw (plain_digits digits (and_parts _ (list_all is_ascii_hexdigit digits) hex).1) at parses)

pub character_said-none : (digits : List ℕ) → is_hexadecimal digits ≡ false → character_said digits ≡ None
unfolding character_said
character_said-none digits wrong = rw wrong refl

-- ---- the parts round a sign

-- the texts of two parts
abbrev pub texts_of : Option (Bor (List ℕ) × Bor (List ℕ)) → Option (List ℕ × List ℕ)
texts_of parts = option_map (λ p. (p.0.now, p.1.now)) parts

-- a text that was split at a character is its two parts
pub parts_round-split : (c : ℕ) (text : List ℕ) (r : Option (Bor (List ℕ) × Bor (List ℕ))) → c < 128 → SplitsAtFirstByte (FindsChar c) (Some c) text r
    → parts_round (λ b. b == c) text ≡ texts_of r
unfolding parts_round
parts_round-split c text None ascii splits =
    let whole : position_or_len (λ b. b == c) text ≡ length text = splits ascii (λ w o f. f) in
    let none : nat_lt (position_or_len (λ b. b == c) text) (length text) ≡ false = le-ltb _ _ (omega (arith, whole)) in
    rw none refl
parts_round-split c text (Some parts) ascii splits =
    let facts = splits ascii (λ w o f. f) in
    let some : nat_lt (position_or_len (λ b. b == c) text) (length text) ≡ true = lt-ltb _ _ facts.2 in
    rw (some, facts.0, facts.1) refl

-- ---- an entry

pub characters_said-split : (text : List ℕ) (r : Option (Bor (List ℕ) × Bor (List ℕ))) → SplitsAtFirstByte (FindsChar 43) (Some 43) text r
    → characters_said text ≡ characters_said_by text (texts_of r)
unfolding characters_said
characters_said-split text r splits = ap (characters_said_by text) (parts_round-split 43 text r (lit< tt) splits)

-- the entry of a name and the text after the equals sign
abbrev pub entry_of_parts : Option (List ℕ × List ℕ) → Option NamedReference
entry_of_parts parts =
    option_and_then (λ p. option_map (λ characters. entry_with p.0 characters.0 characters.1) (characters_said p.1)) parts

pub entry_said-split : (text : List ℕ) (r : Option (Bor (List ℕ) × Bor (List ℕ))) → SplitsAtFirstByte (FindsChar 61) (Some 61) text r
    → entry_said text ≡ entry_of_parts (texts_of r)
unfolding entry_said
entry_said-split text r splits = ap entry_of_parts (parts_round-split 61 text r (lit< tt) splits)
