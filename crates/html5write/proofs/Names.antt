-- The characters of names.
use Rattle.std.proofs.Common.{◌≡◌, ℕ, true, false, List, [], ◌∷◌, ◌++◌, refl, ap, arith}
use Rattle.std.specs.Prelude.{◌==◌, ◌||◌, not, flat_map, encode_utf8, encode_utf8_all}
use Rattle.std.specs.Char.{to_ascii_lowercase}
use Rattle.std.specs.List.{list_all}
use Rattle.std.proofs.lemmas.Bool.{and_parts, not-true}
use Rattle.std.proofs.lemmas.Bool.Decides.{nat_tests}
use Rattle.html5reading.specs.Characters.{null, carriage_return, quotation_mark, apostrophe, solidus, less_than, equals_sign, greater_than, is_between, is_letter, is_white_space, name_bytes, shown}
use Rattle.html5reading.specs.Tag.{in_tag_name, in_attribute_name, is_odd_in_name, is_odd_at_name}
use Rattle.html5grammar.specs.Tag.{begins_attribute}
use Rattle.html5grammar.proofs.Tag.Values.{both-none}
use Rattle.html5write.specs.Pieces.{is_capital, is_name_character, is_attribute_character, is_attribute_name}
use Rattle.html5write.specs.Told.{has_no_return}

-- a character that can stand in a name
pub record IsName (c : ℕ) : Type 0 where
  pub no_space : is_white_space c ≡ false
  pub no_solidus : (c == solidus) ≡ false
  pub no_greater_than : (c == greater_than) ≡ false
  pub no_null : (c == null) ≡ false
  pub no_return : (c == carriage_return) ≡ false
  pub no_capital : is_capital c ≡ false

pub name-parts : (c : ℕ) → is_name_character c ≡ true → IsName c
unfolding is_name_character
name-parts c h =
    let a = both-none (is_white_space c || (c == solidus) || (c == greater_than) || (c == null) || (c == carriage_return)) (is_capital c) (not-true _ h) in
    let b = both-none (is_white_space c || (c == solidus) || (c == greater_than) || (c == null)) (c == carriage_return) a.0 in
    let d = both-none (is_white_space c || (c == solidus) || (c == greater_than)) (c == null) b.0 in
    let e = both-none (is_white_space c || (c == solidus)) (c == greater_than) d.0 in
    let f = both-none (is_white_space c) (c == solidus) e.0 in
    record { no_space = f.0; no_solidus = f.1; no_greater_than = e.1; no_null = d.1; no_return = b.1; no_capital = a.1 }

lower-same : (c : ℕ) → is_capital c ≡ false → to_ascii_lowercase c ≡ c
lower-same c h = grind (arith, nat_tests)

shown-character : (c : ℕ) → IsName c → name_bytes c ≡ encode_utf8 c
unfolding name_bytes shown
shown-character c n = rw n.no_null (ap encode_utf8 (lower-same c n.no_capital))

pub shown-name : (name : List ℕ) → list_all is_name_character name ≡ true → flat_map name_bytes name ≡ encode_utf8_all name
shown-name [] h = refl
shown-name (c ∷ name) h =
    let p = and_parts (is_name_character c) (list_all is_name_character name) h in
    rw (shown-character c (name-parts c p.0)) (ap (λ l. encode_utf8 c ++ l) (shown-name name p.1))

pub no_return-name : (name : List ℕ) → list_all is_name_character name ≡ true → has_no_return name ≡ true
no_return-name [] h = refl
no_return-name (c ∷ name) h =
    let p = and_parts (is_name_character c) (list_all is_name_character name) h in
    rw ((name-parts c p.0).no_return) (no_return-name name p.1)

pub in_tag_name-all : (name : List ℕ) → list_all is_name_character name ≡ true → list_all in_tag_name name ≡ true
unfolding in_tag_name
in_tag_name-all [] h = refl
in_tag_name-all (c ∷ name) h =
    let p = and_parts (is_name_character c) (list_all is_name_character name) h in
    let n : IsName c = name-parts c p.0 in
    rw (n.no_space, n.no_solidus, n.no_greater_than) (in_tag_name-all name p.1)

-- ---- a small letter

pub record IsSmallLetter (c : ℕ) : Type 0 where
  pub letter : is_letter c ≡ true
  pub name : is_name_character c ≡ true

pub small-letter : (c : ℕ) → is_between 0x0061 0x007A c ≡ true → IsSmallLetter c
unfolding is_letter is_name_character is_white_space
small-letter c h = record { letter = grind (arith, nat_tests); name = grind (arith, nat_tests) }

-- ---- attributes

pub record IsAttributeName (c : ℕ) : Type 0 where
  pub name : is_name_character c ≡ true
  pub no_quote : (c == quotation_mark) ≡ false
  pub no_apostrophe : (c == apostrophe) ≡ false
  pub no_less_than : (c == less_than) ≡ false
  pub no_equals : (c == equals_sign) ≡ false

pub attribute-parts : (c : ℕ) → is_attribute_character c ≡ true → IsAttributeName c
unfolding is_attribute_character
attribute-parts c h =
    let p = and_parts (is_name_character c) (not ((c == quotation_mark) || (c == apostrophe) || (c == less_than) || (c == equals_sign))) h in
    let a = both-none ((c == quotation_mark) || (c == apostrophe) || (c == less_than)) (c == equals_sign) (not-true _ p.1) in
    let b = both-none ((c == quotation_mark) || (c == apostrophe)) (c == less_than) a.0 in
    let d = both-none (c == quotation_mark) (c == apostrophe) b.0 in
    record { name = p.0; no_quote = d.0; no_apostrophe = d.1; no_less_than = b.1; no_equals = a.1 }

pub names-attribute : (name : List ℕ) → list_all is_attribute_character name ≡ true → list_all is_name_character name ≡ true
names-attribute [] h = refl
names-attribute (c ∷ name) h =
    let p = and_parts (is_attribute_character c) (list_all is_attribute_character name) h in
    rw ((attribute-parts c p.0).name) (names-attribute name p.1)

pub names-attribute_name : (name : List ℕ) → is_attribute_name name ≡ true → list_all is_name_character name ≡ true
unfolding is_attribute_name
names-attribute_name [] h = refl
names-attribute_name (c ∷ name) h = names-attribute (c ∷ name) h

pub in_attribute_name-all : (name : List ℕ) → list_all is_attribute_character name ≡ true → list_all in_attribute_name name ≡ true
unfolding in_attribute_name
in_attribute_name-all [] h = refl
in_attribute_name-all (c ∷ name) h =
    let p = and_parts (is_attribute_character c) (list_all is_attribute_character name) h in
    let a : IsAttributeName c = attribute-parts c p.0 in
    let n : IsName c = name-parts c a.name in
    rw (n.no_space, n.no_solidus, n.no_greater_than, a.no_equals) (in_attribute_name-all name p.1)

pub begins-attribute : (c : ℕ) → IsName c → begins_attribute c ≡ true
unfolding begins_attribute
begins-attribute c n = rw (n.no_space, n.no_solidus, n.no_greater_than) refl

pub no_odd : (c : ℕ) → IsAttributeName c → is_odd_in_name c ≡ false
unfolding is_odd_in_name
no_odd c a = rw ((name-parts c a.name).no_null, a.no_quote, a.no_apostrophe, a.no_less_than) refl

pub no_odd_first : (c : ℕ) → IsAttributeName c → is_odd_at_name c ≡ false
unfolding is_odd_at_name
no_odd_first c a = rw (no_odd c a, a.no_equals) refl
