-- The scheme of an address, by its bytes: vocabulary of proofs. That it is the one of the URL Standard's parser, `ParsedSchemes` says.
use Rattle.std.specs.Prelude.{◌≡◌, ℕ, Bool, not, List, [], ◌∷◌, ◌||◌, ◌==◌, filter, Option, None, Some, option_map, nat_lt, true, if◌then◌else◌}
use Rattle.std.specs.Char.{to_ascii_lowercase, is_ascii_alphabetic, is_ascii_alphanumeric}
use Rattle.html5policy.specs.Names.{is_one_of}

-- "remove any leading C0 control or space"
unfoldable pub without_front : List ℕ → List ℕ
without_front [] = []
without_front (byte ∷ address) = if nat_lt byte 0x21 then without_front address else byte ∷ address

-- "remove all ASCII tab or newline"
abbrev pub is_no_break : ℕ → Bool
is_no_break byte = not ((byte == 9) || (byte == 10) || (byte == 13))

abbrev pub without_breaks : List ℕ → List ℕ
without_breaks address = filter is_no_break address

-- "ASCII alphanumeric, U+002B (+), U+002D (-), or U+002E (.)"
abbrev pub is_scheme_byte : ℕ → Bool
is_scheme_byte byte = is_ascii_alphanumeric byte || (byte == 0x2B) || (byte == 0x2D) || (byte == 0x2E)

-- the bytes before the colon, in lower case: none if another byte stands before it
unfoldable pub scheme_from : List ℕ → Option (List ℕ)
scheme_from [] = None
scheme_from (byte ∷ address) =
    if byte == 0x3A then Some []
    else if is_scheme_byte byte then option_map (λ scheme. to_ascii_lowercase byte ∷ scheme) (scheme_from address)
    else None

-- a scheme begins with a letter
unfoldable pub scheme_where : List ℕ → Option (List ℕ)
scheme_where [] = None
scheme_where (byte ∷ address) = if is_ascii_alphabetic byte then scheme_from (byte ∷ address) else None

-- the scheme of an address
abbrev pub scheme_of : List ℕ → Option (List ℕ)
scheme_of address = scheme_where (without_breaks (without_front address))

-- no scheme, or one of these
pub data RunsNothing (schemes : List (List ℕ)) (scheme : Option (List ℕ)) : Type 0 where
  Relative : scheme ≡ None → RunsNothing schemes scheme
  OneOf : (word : List ℕ) → is_one_of schemes word ≡ true → scheme ≡ Some word → RunsNothing schemes scheme
