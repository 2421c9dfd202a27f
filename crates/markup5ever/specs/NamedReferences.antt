-- "Named character references": the table of names. A name is its bytes, without the ampersand before it.
use Rattle.std.specs.Prelude.{◌≡◌, ℕ, ◌-◌, Bool, false, not, ◌==◌, ◌&&◌, ◌||◌, List, [], ◌∷◌, ◌++◌, length, take, drop, map, nat_eq, codes, String, string_bytes, IsTrue, IsNone, All, Option, None, Some, if◌then◌else◌}
use Rattle.std.specs.Char.{is_ascii_alphanumeric}
use Rattle.std.specs.Cmp.Lexicographic.{slice_cmp}
use Rattle.std.specs.List.{AllByRecursion, fold, list_all, starts_with}
use Rattle.std.specs.Option.{is_some, option_map_or, option_or}
use Rattle.std.specs.Ordering.{nat_cmp, is_lt}
use Rattle.std.specs.Str.{bytes_eq}
use Rattle.markup5ever.specs.declared.data.TableError.{TableError}
use Rattle.markup5ever.specs.declared.data.TableError.TheVariants.{BadName, ZeroCharacter, RepeatedName}

-- a name, and the one or two characters that it stands for
pub record NamedReference : Type 0 where
  pub name : List ℕ
  pub first : ℕ
  pub second : Option ℕ

-- an entry, in the words of contracts
abbrev pub reference_of : {Z : Type 0} → String Z × ℕ × Option ℕ → NamedReference
reference_of entry = record { name = string_bytes entry.0; first = entry.1; second = entry.2 }

-- the entries, in the words of contracts
abbrev pub references_of : {Z : Type 0} → List (String Z × ℕ × Option ℕ) → List NamedReference
references_of entries = map reference_of entries

-- ---- what a table answers

-- "Named character reference state": whether some entry's name begins with the text
unfoldable pub begins_name : List NamedReference → List ℕ → Bool
begins_name [] text = false
begins_name (entry ∷ entries) text = starts_with nat_eq entry.name text || begins_name entries text

-- the characters of the first entry of that name
unfoldable pub characters_of_name : List NamedReference → List ℕ → Option (ℕ × Option ℕ)
characters_of_name [] name = None
characters_of_name (entry ∷ entries) name =
    if bytes_eq entry.name name then Some (entry.first, entry.second) else characters_of_name entries name

-- ---- which entries make a table

-- the name without a semicolon at its end
abbrev pub without_semicolon : List ℕ → List ℕ
without_semicolon name = if bytes_eq (drop (length name - 1) name) (codes ";") then take (length name - 1) name else name

-- one or more ASCII letters and digits, with at most one semicolon, at the end
unfoldable pub is_plain_name : List ℕ → Bool
is_plain_name name =
    let letters = without_semicolon name in
    not (length letters == 0) && list_all is_ascii_alphanumeric letters

-- one of the characters is U+0000
unfoldable pub has_zero : NamedReference → Bool
has_zero entry = (entry.first == 0) || option_map_or (λ c. c == 0) entry.second false

-- no entry of the list has the name
abbrev pub IsNewName : List NamedReference → List ℕ → Type 0
IsNewName entries name = IsNone (characters_of_name entries name)

-- no name comes twice
unfoldable pub AreDistinct : List NamedReference → Type 0
AreDistinct [] = Unit {0}
AreDistinct (entry ∷ entries) = IsNewName entries entry.name × AreDistinct entries

-- each name is plain, no character is U+0000, and each name has the characters of its own entry alone
pub record IsTable (entries : List NamedReference) : Type 0 where
  pub plain : All (λ entry. IsTrue (is_plain_name entry.name)) entries
  pub nonzero : All (λ entry. has_zero entry ≡ false) entries
  pub distinct : AreDistinct entries
  pub own : All (λ entry. characters_of_name entries entry.name ≡ Some (entry.first, entry.second)) entries

-- what is wrong with an entry after the earlier ones
unfoldable pub fault_after : List NamedReference → NamedReference → Option TableError
fault_after earlier entry =
    if not (is_plain_name entry.name) then Some (BadName (length earlier))
    else if has_zero entry then Some (ZeroCharacter (length earlier))
    else if is_some (characters_of_name earlier entry.name) then Some (RepeatedName (length earlier))
    else None

-- the first fault of entries after the earlier ones
unfoldable pub first_fault_after : List NamedReference → List NamedReference → Option TableError
first_fault_after earlier [] = None
first_fault_after earlier (entry ∷ entries) =
    option_or (fault_after earlier entry) (first_fault_after (earlier ++ entry ∷ []) entries)

-- the first fault of the entries, in their order
abbrev pub first_fault : List NamedReference → Option TableError
first_fault entries = first_fault_after [] entries

-- ---- the table of entries

-- the first name comes before the second
abbrev pub comes_before : List ℕ → List ℕ → Bool
comes_before name other = is_lt (slice_cmp nat_cmp name other)

-- each name comes before all that stand after it
unfoldable pub IsAscending : List NamedReference → Type 0
IsAscending [] = Unit {0}
IsAscending (entry ∷ entries) =
    AllByRecursion (λ later. IsTrue (comes_before entry.name later.name)) entries × IsAscending entries

-- the entry among ascending ones, before the first that it comes before
unfoldable pub in_place : List NamedReference → NamedReference → List NamedReference
in_place [] entry = entry ∷ []
in_place (next ∷ entries) entry =
    if comes_before entry.name next.name then entry ∷ next ∷ entries else next ∷ in_place entries entry

-- the entries in the order of their names
abbrev pub table_of : List NamedReference → List NamedReference
table_of entries = fold in_place [] entries
