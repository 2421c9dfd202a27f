-- Slips of the keyboard: names of which a listed one was meant. A name is its bytes.
use Rattle.std.specs.Prelude.{◌≡◌, ◌≢◌, ◌⊎◌, ℕ, ◌==◌, nat_le, Bool, false, List, [], ◌∷◌, ◌++◌, length, ◌||◌, ◌&&◌, Option, None, if◌then◌else◌}
use Rattle.std.specs.Char.{is_ascii_alphanumeric}
use Rattle.std.specs.List.{find, list_all, list_any}
use Rattle.std.specs.Option.{option_or}
use Rattle.std.specs.Str.{bytes_eq}

-- what is left of two names after the longest prefix that they share
abbrev pub rests : List ℕ → List ℕ → List ℕ × List ℕ
rests [] other = ([], other)
rests (a ∷ name) [] = (a ∷ name, [])
rests (a ∷ name) (b ∷ other) = if a == b then rests name other else (a ∷ name, b ∷ other)

-- ---- how the rests of two names may differ

-- the first two characters are swapped, and the rest is the same
abbrev pub is_swapped : List ℕ → List ℕ → Bool
is_swapped (a ∷ b ∷ rest) (c ∷ d ∷ other) = (a == d) && (b == c) && bytes_eq rest other
is_swapped rest other = false

-- the first has one character more, and the rest is the same
abbrev pub has_one_more : List ℕ → List ℕ → Bool
has_one_more [] other = false
has_one_more (a ∷ rest) other = bytes_eq rest other

-- the first characters are others, and the rest is the same
abbrev pub has_one_other : List ℕ → List ℕ → Bool
has_one_other (a ∷ rest) (b ∷ other) = bytes_eq rest other
has_one_other rest other = false

-- one character more, one less, or one other
abbrev pub differs_by_one : List ℕ → List ℕ → Bool
differs_by_one rest other = has_one_more rest other || has_one_more other rest || has_one_other rest other

-- ---- slips

-- two neighbouring characters are swapped
unfoldable pub is_swap_of : List ℕ → List ℕ → Bool
is_swap_of name meant = is_swapped (rests name meant).0 (rests name meant).1

-- one character is too many, missing or another, where both names have four characters at least: too many shorter ones are near
unfoldable pub is_near : List ℕ → List ℕ → Bool
is_near name meant = nat_le 4 (length name) && nat_le 4 (length meant) && differs_by_one (rests name meant).0 (rests name meant).1

-- ---- what was meant

-- whether a name may be a slip: it is three letters or digits at least, and nothing else, so none of `x-a`, `v:if` and `@click`
unfoldable pub may_be_slip : List ℕ → Bool
may_be_slip name = nat_le 3 (length name) && list_all is_ascii_alphanumeric name

-- the first name of a list of which two characters are swapped, or else the first that is near
abbrev pub nearest : List (List ℕ) → List ℕ → Option (List ℕ)
nearest listed name = option_or (find (is_swap_of name) listed) (find (is_near name) listed)

-- what was meant by a name, which is nothing where it is listed
unfoldable pub meant_among : List (List ℕ) → List ℕ → Option (List ℕ)
meant_among listed name =
    if list_any (bytes_eq name) listed then None
    else if may_be_slip name then nearest listed name
    else None

-- ---- slips as they are written

-- the name is another, in which two neighbouring characters stand the other way round
pub record IsSwapOf (name meant : List ℕ) : Type 0 where
  pub front : List ℕ
  pub first : ℕ
  pub second : ℕ
  pub back : List ℕ
  pub name_is : name ≡ front ++ first ∷ second ∷ back
  pub meant_is : meant ≡ front ++ second ∷ first ∷ back
  pub differ : first ≢ second

-- the one name is the other, with one character more
pub record HasOneMore (longer shorter : List ℕ) : Type 0 where
  pub front : List ℕ
  pub extra : ℕ
  pub back : List ℕ
  pub longer_is : longer ≡ front ++ extra ∷ back
  pub shorter_is : shorter ≡ front ++ back

-- the name is another, in which one character is another
pub record HasOneOther (name meant : List ℕ) : Type 0 where
  pub front : List ℕ
  pub one : ℕ
  pub other : ℕ
  pub back : List ℕ
  pub name_is : name ≡ front ++ one ∷ back
  pub meant_is : meant ≡ front ++ other ∷ back
  pub differ : one ≢ other

-- one character more, one less, or one other
abbrev pub DiffersByOne : List ℕ → List ℕ → Type 0
DiffersByOne name meant = HasOneMore name meant ⊎ (HasOneMore meant name ⊎ HasOneOther name meant)
