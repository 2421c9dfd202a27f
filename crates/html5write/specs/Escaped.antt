-- Characters as they are written, so that they are read again as themselves.
use Rattle.std.specs.Prelude.{ℕ, List, [], ◌∷◌, ◌==◌, codes, flat_map, Option, None, Some, if◌then◌else◌}
use Rattle.html5reading.specs.Characters.{carriage_return, quotation_mark, ampersand, less_than, greater_than, byte_order_mark}

-- the reference that is written for a character that can't stand for itself: no table is needed to read it
unfoldable pub reference_of : ℕ → Option (List ℕ)
reference_of c =
    if c == ampersand then Some (codes "&#38;")
    else if c == less_than then Some (codes "&#60;")
    else if c == greater_than then Some (codes "&#62;")
    else if c == quotation_mark then Some (codes "&#34;")
    else if c == carriage_return then Some (codes "&#13;")
    else if c == byte_order_mark then Some (codes "&#65279;")
    else None

abbrev pub reference_or : Option (List ℕ) → List ℕ → List ℕ
reference_or None itself = itself
reference_or (Some reference) itself = reference

-- the characters that are written for a character
unfoldable pub escaped : ℕ → List ℕ
escaped c = reference_or (reference_of c) (c ∷ [])

-- and for a text
abbrev pub escaped_text : List ℕ → List ℕ
escaped_text text = flat_map escaped text
