-- A word of small letters is a name of a tag and of an attribute.
use Rattle.std.proofs.Common.{◌≡◌, ℕ, ◌<◌, Bool, true, List, [], ◌∷◌, length, refl, arith}
use Rattle.std.specs.List.{list_all}
use Rattle.std.specs.Str.{IsAscii}
use Rattle.std.proofs.lemmas.Bool.{and_parts}
use Rattle.std.proofs.lemmas.Bool.Decides.{nat_tests}
use Rattle.std.proofs.lemmas.Str.{chars-IsAscii}
use Rattle.std.proofs.lemmas.Str.Ascii.{IsAscii-nil, IsAscii-cons}
use Rattle.html5reading.specs.Characters.{is_white_space}
use Rattle.html5write.specs.SmallWords.{is_small_letter, IsNameOfBoth}
use Rattle.html5write.specs.Pieces.{is_name_character, is_attribute_character, is_tag_name, is_attribute_name}

small-ascii : (c : ℕ) → is_small_letter c ≡ true → c < 128
small-ascii c h = grind (arith, nat_tests)

small-name : (c : ℕ) → is_small_letter c ≡ true → is_name_character c ≡ true
unfolding is_name_character is_white_space
small-name c h = grind (arith, nat_tests)

small-attribute : (c : ℕ) → is_small_letter c ≡ true → is_attribute_character c ≡ true
unfolding is_attribute_character is_name_character is_white_space
small-attribute c h = grind (arith, nat_tests)

all_small-ascii : (name : List ℕ) → list_all is_small_letter name ≡ true → IsAscii name
all_small-ascii [] h = IsAscii-nil
all_small-ascii (c ∷ name) h =
    let p = and_parts (is_small_letter c) (list_all is_small_letter name) h in
    IsAscii-cons c name (small-ascii c p.0) (all_small-ascii name p.1)

module _ (is_kind : ℕ → Bool) (each : (c : ℕ) → is_small_letter c ≡ true → is_kind c ≡ true) where
  all_small : (name : List ℕ) → list_all is_small_letter name ≡ true → list_all is_kind name ≡ true
  all_small [] h = refl
  all_small (c ∷ name) h =
      let p = and_parts (is_small_letter c) (list_all is_small_letter name) h in
      rw (each c p.0) (all_small name p.1)

pub small-word : (name : List ℕ) → ¬ (length name ≡ 0) → list_all is_small_letter name ≡ true → IsNameOfBoth name
unfolding is_tag_name is_attribute_name
small-word [] some all = absurd (some refl)
small-word (c ∷ name) some all =
    let p = and_parts (is_small_letter c) (list_all is_small_letter name) all in
    let same = chars-IsAscii (c ∷ name) (all_small-ascii (c ∷ name) all) in
    record {
      of_tag = rw (same, p.0) (all_small is_name_character small-name name p.1);
      of_attribute = rw (same, small-attribute c p.0) (all_small is_attribute_character small-attribute name p.1);
    }
