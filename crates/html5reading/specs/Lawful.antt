-- What holds of each token that is sent.
use Rattle.std.specs.Prelude.{◌≡◌, ℕ, Bool, true, false, List, [], ◌∷◌, ◌++◌, ◌==◌, not, map, All, IfSome}
use Rattle.std.specs.Char.{is_ascii_lowercase, is_ascii_uppercase}
use Rattle.std.specs.List.{list_all, IsDistinct}
use Rattle.std.specs.Str.{bytes_eq}
use Rattle.html5ever_interface.specs.Sink.{Message}
use Rattle.html5ever_interface.specs.Token.{Told, TagOf, DoctypeOf, is_tag}
use Rattle.html5ever_interface.specs.Token.Told.{Text, Tag, Doctype}
use Rattle.html5reading.specs.Characters.{null}
use Rattle.markup5ever.specs.Names.{AttributeOf}

-- none of the bytes is NUL
unfoldable pub has_no_null : List ℕ → Bool
has_no_null text = list_all (λ b. not (b == null)) text

-- none of the bytes is an ASCII letter in upper case
unfoldable pub has_no_capital : List ℕ → Bool
has_no_capital name = list_all (λ b. not (is_ascii_uppercase b)) name

-- the first byte is an ASCII letter in lower case
unfoldable pub begins_with_letter : List ℕ → Bool
begins_with_letter [] = false
begins_with_letter (b ∷ name) = is_ascii_lowercase b

-- the names of attributes, in order
abbrev pub attribute_names : List AttributeOf → List (List ℕ)
attribute_names attributes = map (λ a. a.name.local) attributes

-- a tag's name begins with a letter, no name in it has a capital, and no name of an attribute stands in it twice
pub record IsLawfulTag (tag : TagOf) : Type 0 where
  pub begins : begins_with_letter tag.name ≡ true
  pub name : has_no_capital tag.name ≡ true
  pub attributes : list_all has_no_capital (attribute_names tag.attributes) ≡ true
  pub distinct : IsDistinct bytes_eq (attribute_names tag.attributes)

-- a doctype's name, if it has one, has no capital
abbrev pub IsLawfulDoctype : DoctypeOf → Type 0
IsLawfulDoctype d = IfSome d.name (λ name. has_no_capital name ≡ true)

-- the law of each kind of token
abbrev pub IsLawful : Told → Type 0
IsLawful (Text text) = has_no_null text ≡ true
IsLawful (Tag tag) = IsLawfulTag tag
IsLawful (Doctype d) = IsLawfulDoctype d
IsLawful other = Unit {0}

-- all the messages are the first ones, and then messages of which none is a tag
abbrev pub TellsNoTagAfter : List Message → List Message → Type 0
TellsNoTagAfter first all = (later : List Message) × (all ≡ first ++ later) × All (λ m. is_tag m.token ≡ false) later
