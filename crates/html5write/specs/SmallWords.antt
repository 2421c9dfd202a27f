-- Names that are seen at a glance. These are words of the proofs: no promise to callers is made of them.
use Rattle.std.specs.Prelude.{◌≡◌, ℕ, Bool, true, List}
use Rattle.std.specs.Str.{chars}
use Rattle.html5reading.specs.Characters.{is_between}
use Rattle.html5write.specs.Pieces.{is_tag_name, is_attribute_name}

abbrev pub is_small_letter : ℕ → Bool
is_small_letter byte = is_between 0x61 0x7A byte

-- it can be the name of a tag, and that of an attribute
pub record IsNameOfBoth (name : List ℕ) : Type 0 where
  pub of_tag : is_tag_name (chars name) ≡ true
  pub of_attribute : is_attribute_name (chars name) ≡ true
