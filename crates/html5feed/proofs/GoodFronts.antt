-- The front of a text that is ASCII, and in which no byte is bad or in a set.
use Rattle.std.proofs.Common.{◌≡◌, ℕ, false, List, take}
use Rattle.std.specs.Prelude.{All}
use Rattle.std.specs.Str.{IsUtf8, chars}
use Rattle.std.proofs.lemmas.List.Elements.{All-weaker}
use Rattle.html5reading.specs.Characters.{is_bad_character}
use Rattle.markup5ever.specs.SmallCharSet.{BeginsOutside, IsMember}
use Rattle.html5fast_path.proofs.AsciiFronts.{IsAsciiFront, front-characters, front-outside}

-- a byte that is not bad, and not in the set
abbrev pub IsGood : ℕ → ℕ → Type 0
IsGood set b = (is_bad_character b ≡ false) × ¬ IsMember set b

pub good-outside : (set : ℕ) (text : List ℕ) (len : ℕ) → IsUtf8 text → IsAsciiFront (IsGood set) text len → BeginsOutside set text len
good-outside set text len utf8 front = front-outside (IsGood set) set text len (λ b good. good.1) utf8 front

pub good-no_bad : (set : ℕ) (text : List ℕ) (len : ℕ) → IsAsciiFront (IsGood set) text len → All (λ c. is_bad_character c ≡ false) (chars (take len text))
good-no_bad set text len front = All-weaker (IsGood set) (λ c. is_bad_character c ≡ false) (λ b good. good.0) (chars (take len text)) (front-characters (IsGood set) text len front)
