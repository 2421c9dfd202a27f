-- Characters that tell nothing, where errors are not exact. Vocabulary of proofs.
use Rattle.std.specs.Prelude.{◌≡◌, ◌≢◌, ◌≤◌, ℕ, Bool, true, false, List, [], ◌∷◌, ◌++◌, length, take, drop}
use Rattle.std.specs.Str.{IsUtf8, chars}
use Rattle.html5ever_interface.specs.Token.{TagOf}
use Rattle.html5ever_interface.specs.declared.interface.token.TagKind.{TagKind}
use Rattle.html5ever_interface.specs.declared.interface.token.TagKind.TheVariants.{StartTag, EndTag}
use Rattle.html5reading.specs.Characters.{null, line_feed, carriage_return, quotation_mark, equals_sign, greater_than, is_letter}
use Rattle.html5reading.specs.Machine.{step_at}
use Rattle.html5reading.specs.Reading.Here.{Tells, TellsTag}
use Rattle.html5reading.specs.Start.{Open, is_undecided_open}
use Rattle.html5reading.specs.Start.Open.{LessThan, LessThanSolidus}
use Rattle.markup5ever.specs.SmallCharSet.{BeginsOutside}

-- a `>` ends this tag where `opened` is, and tells nothing before it
abbrev pub EndsQuietly : Open → TagOf → Type 0
EndsQuietly opened tag = (exact : Bool) → step_at exact opened greater_than ≡ TellsTag [] tag

-- c belongs to no line break and tells nothing where `opened` is. After it `later` is open.
pub record IsQuiet (opened later : Open) (c : ℕ) : Type 0 where
  pub decided : is_undecided_open opened ≡ false
  pub steps : step_at false opened c ≡ Tells [] later
  pub no_line_feed : c ≢ line_feed
  pub no_carriage_return : c ≢ carriage_return

-- a character that doesn't end a comment, is not shown as another one, and is part of no line break
pub record IsOrdinary (c : ℕ) : Type 0 where
  pub no_greater_than : c ≢ greater_than
  pub no_null : c ≢ null
  pub no_line_feed : c ≢ line_feed
  pub no_carriage_return : c ≢ carriage_return

-- each character of the text is so, one after another
unfoldable pub ReadsQuietly : Open → List ℕ → Open → Type 0
ReadsQuietly opened [] later = opened ≡ later
ReadsQuietly opened (c ∷ text) later = (next : Open) × (IsQuiet opened next c × ReadsQuietly next text later)

-- this many bytes at the front of a text are read so
pub record ReadsFront (text : List ℕ) (bytes : ℕ) (opened later : Open) : Type 0 where
  pub within : bytes ≤ length text
  pub rest_utf8 : IsUtf8 (drop bytes text)
  pub quiet : ReadsQuietly opened (chars (take bytes text)) later

-- a prefix of the text was read so, and memory was refused for what begins with the next character
pub record StopsQuietly (opened : Open) (text : List ℕ) : Type 0 where
  pub front : List ℕ
  pub item : List ℕ
  pub parts : text ≡ front ++ item
  pub is_one : length item ≤ 1
  pub later : Open
  pub reads : ReadsQuietly opened front later

-- the bytes of a text begin with this character of ASCII
pub record BeginsWithCharacter (text : List ℕ) (c : ℕ) : Type 0 where
  pub within : 1 ≤ length text
  pub rest_utf8 : IsUtf8 (drop 1 text)
  pub first : chars (take 1 text) ≡ c ∷ []

-- a text begins with `="`
pub record BeginsValue (text : List ℕ) : Type 0 where
  pub equals : BeginsWithCharacter text equals_sign
  pub quotes : BeginsWithCharacter (drop 1 text) quotation_mark

-- what is open before the name of a tag
abbrev pub opening_of : TagKind → Open
opening_of StartTag = LessThan
opening_of EndTag = LessThanSolidus

-- this many bytes at the front of a text are a name: the first character is a letter, and none is in the set of those that end
-- it
pub record IsNameIn (ends : ℕ) (text : List ℕ) (len : ℕ) : Type 0 where
  pub outside : BeginsOutside ends text len
  pub first : ℕ
  pub rest : List ℕ
  pub parts : chars (take len text) ≡ first ∷ rest
  pub letter : is_letter first ≡ true
