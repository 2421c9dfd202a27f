-- "Character reference state": where a reference stands, the held text of one, and what it comes to.
use Rattle.std.specs.Prelude.{◌≡◌, ◌≢◌, ◌≤◌, ◌==◌, ℕ, Bool, true, List, [], ◌∷◌, ◌++◌, All, Option, None, Some, length, take, drop, if◌then◌else◌}
use Rattle.std.specs.Char.{is_ascii_alphanumeric}
use Rattle.std.specs.List.{list_all}
use Rattle.std.specs.Str.{IsAscii, IsUtf8}
use Rattle.html5reading.specs.Characters.{number_sign, semicolon}
use Rattle.html5reading.specs.Reference.{is_number, is_undecided}
use Rattle.html5reading.specs.Reference as grammar
use Rattle.html5reading.specs.Start.{Open, Stand}
use Rattle.html5reading.specs.Start.Mode.{Data, RawText}
use Rattle.html5reading.specs.Start.Raw.{Rcdata}
use Rattle.html5reading.specs.Start.Open.{Between, InTag, InReference}
use Rattle.html5reading.specs.Start.Place.{InValue}
use Rattle.html5reading.specs.Start.Stand.{InText, InAttribute}
use Rattle.html5partial.specs.declared.char_ref.Found.{Found}
use Rattle.html5partial.specs.declared.char_ref.Named.{Named}
use Rattle.markup5ever.specs.NamedReferences.{NamedReference, begins_name}

-- whether a reference can stand where this is open
abbrev pub HasStand : Open → Type 0
HasStand (Between Data) = Unit {0}
HasStand (Between (RawText Rcdata name)) = Unit {0}
HasStand (InTag (InValue kind) tag) = Unit {0}
HasStand other = ⊥

-- "Character reference state": where the reference stands, the return state of the standard
abbrev pub stand_of : Open → Stand
stand_of (InTag (InValue kind) tag) = InAttribute kind tag
stand_of (Between mode) = InText mode
stand_of other = InText Data

-- "Hexadecimal character reference state" and "Decimal character reference state": the text after `#` is digits of the base alone
abbrev pub IsNumberHeld : List ℕ → Type 0
IsNumberHeld [] = Unit {0}
IsNumberHeld (c ∷ text) = c ≡ number_sign → is_number text ≡ true

-- "Named character reference state" and the numeric ones: the held text is letters, digits, `#` and `;`, and maybe letters and
-- digits alone
pub record IsHeld (held : List ℕ) (is_alphanumeric : Bool) : Type 0 where
  pub plain : All (λ c. (number_sign ≤ c) × (c ≤ 0x7A)) held
  pub number : IsNumberHeld held
  pub alphanumeric : is_alphanumeric ≡ list_all is_ascii_alphanumeric held

-- "Named character reference state": each of these characters leaves the reference undecided of which so much is held, and is held,
-- too
unfoldable pub HoldsEach : List NamedReference → List ℕ → List ℕ → Type 0
HoldsEach references held [] = Unit {0}
HoldsEach references held (c ∷ text) =
    (is_undecided references (held ++ c ∷ []) ≡ true) × (number_sign ≤ c) × (c ≤ 0x7A) × HoldsEach references (held ++ c ∷ []) text

-- a text begins with a character of ASCII
pub record BeginsInAscii (text : List ℕ) : Type 0 where
  pub filled : 1 ≤ length text
  pub ascii : IsAscii (take 1 text)
  pub rest_utf8 : IsUtf8 (drop 1 text)

-- "Named character reference state": a text begins with this many letters and digits, and this many bytes of it are these with a
-- semicolon after them or with none, where a name of the table begins so. Both are 0 if no name does.
pub record IsNameFront (references : List NamedReference) (text : List ℕ) (letters bytes : ℕ) : Type 0 where
  pub within : bytes ≤ length text
  pub parts : bytes ≢ 0 → take bytes text ≡ take letters text ++ (if bytes == letters then [] else semicolon ∷ [])
  pub begins : bytes ≢ 0 → begins_name references (take bytes text) ≡ true

-- the second character, if there is one
abbrev pub more_of : Option ℕ → List ℕ
more_of None = []
more_of (Some c) = c ∷ []

-- a function finds what the grammar finds
pub record IsFound (found : Found) (expected : grammar.Found) : Type 0 where
  pub taken : found.taken ≡ expected.taken
  pub first : found.first ≡ expected.first
  pub more : more_of found.second ≡ expected.more

-- "Named character reference state": the name with which the text begins is that of the entry
abbrev pub IsNamed : List ℕ → Option Named → Option NamedReference → Type 0
IsNamed text None None = Unit {0}
IsNamed text (Some named) (Some entry) =
    (named.len ≤ length text) × (entry.name ≡ take named.len text) × (named.first ≡ entry.first) × (named.second ≡ entry.second)
IsNamed text other entry = ⊥

-- what is open, where a reference is open or not and so much is held of it
unfoldable pub with_reference : Bool → List ℕ → Open → Open
with_reference is_in held opened = if is_in then InReference (stand_of opened) held else opened

-- "Character reference state": what is open after the `&` of a reference
abbrev pub begun_reference : Open → Open
begun_reference opened = InReference (stand_of opened) []

-- the reference of which so much is held, in a value or not, where that follows
abbrev pub decided : Bool → List NamedReference → Bool → List ℕ → Option ℕ → grammar.Found
decided exact references in_value held next = grammar.reference (record { exact = exact; references = references }) in_value held next

-- the reference that stands there, where so much is held and that follows
abbrev pub found_at : Bool → List NamedReference → Stand → List ℕ → Option ℕ → grammar.Found
found_at exact references stand held next = grammar.reference (record { exact = exact; references = references }) (grammar.in_value stand) held next
