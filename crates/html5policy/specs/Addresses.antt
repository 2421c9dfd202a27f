-- Which addresses are kept, by their bytes.
use Rattle.std.specs.Prelude.{ℕ, Bool, true, false, List, [], ◌∷◌, ◌++◌, ◌||◌, ◌&&◌, ◌==◌, nat_lt, codes, if◌then◌else◌}
use Rattle.std.specs.Char.{to_ascii_lowercase}
use Rattle.std.specs.List.{list_any}

-- a byte that is passed over where a scheme is looked for: white space and controls
abbrev pub is_passed_over : ℕ → Bool
is_passed_over byte = nat_lt byte 0x21

-- whether an address begins with a scheme, which is written in small letters and with its colon; the case of the address is neglected
unfoldable pub has_scheme : List ℕ → List ℕ → Bool
has_scheme [] [] = true
has_scheme [] (letter ∷ scheme) = false
has_scheme (byte ∷ address) [] = true
has_scheme (byte ∷ address) (letter ∷ scheme) =
    if is_passed_over byte then has_scheme address (letter ∷ scheme) else (to_ascii_lowercase byte == letter) && has_scheme address scheme

-- whether no colon stands before the first `/`, `?` or `#`: such an address has no scheme
unfoldable pub is_relative : List ℕ → Bool
is_relative [] = true
is_relative (byte ∷ address) = if byte == 58 then false else if (byte == 47) || (byte == 63) || (byte == 35) then true else is_relative address

-- whether an address has one of these schemes
unfoldable pub has_scheme_of : List (List ℕ) → List ℕ → Bool
has_scheme_of schemes address = list_any (λ scheme. has_scheme address (scheme ++ codes ":")) schemes

-- whether an address is relative, or has one of these schemes
unfoldable pub is_safe_address : List (List ℕ) → List ℕ → Bool
is_safe_address schemes address = is_relative address || has_scheme_of schemes address
