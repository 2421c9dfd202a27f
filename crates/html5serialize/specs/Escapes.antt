-- How the characters of texts and values are escaped: by number, or by names of the table as "Escaping a string" does.
use Rattle.std.specs.Prelude.{◌≡◌, ℕ, List, [], ◌∷◌, ◌==◌, codes, flat_map, Option, None, Some, if◌then◌else◌}
use Rattle.html5reading.specs.Characters.{quotation_mark, ampersand, less_than, greater_than}
use Rattle.html5serialize.specs.declared.escaping.Escapes.{Escapes}
use Rattle.html5serialize.specs.declared.escaping.Escapes.TheVariants.{Numbers, Names}
use Rattle.html5write.specs.Escaped.{escaped, reference_of, reference_or}
use Rattle.markup5ever.specs.NamedReferences.{NamedReference, characters_of_name}

-- U+00A0
abbrev pub no_break_space : ℕ
no_break_space = 0xA0

-- "Escaping a string", where it is no attribute's value: four characters by their names, and `"` as it is. CR and U+FEFF, of which
-- the standard says nothing there, by number all the same.
unfoldable pub named_reference_of : ℕ → Option (List ℕ)
named_reference_of c =
    if c == ampersand then Some (codes "&amp;")
    else if c == no_break_space then Some (codes "&nbsp;")
    else if c == less_than then Some (codes "&lt;")
    else if c == greater_than then Some (codes "&gt;")
    else if c == quotation_mark then None
    else reference_of c

-- the characters that are written for a character
unfoldable pub named : ℕ → List ℕ
named c = reference_or (named_reference_of c) (c ∷ [])

abbrev pub reference_by : Escapes → ℕ → Option (List ℕ)
reference_by Numbers c = reference_of c
reference_by Names c = named_reference_of c

abbrev pub escaped_by : Escapes → ℕ → List ℕ
escaped_by Numbers c = escaped c
escaped_by Names c = named c

-- and for a text
abbrev pub escaped_text_by : Escapes → List ℕ → List ℕ
escaped_text_by escapes text = flat_map (λ c. escaped_by escapes c) text

-- ---- values of attributes

-- "Escaping a string" in the attribute mode: there `"` has its name, too
unfoldable pub named_value : ℕ → List ℕ
named_value c = if c == quotation_mark then codes "&quot;" else named c

abbrev pub value_by : Escapes → ℕ → List ℕ
value_by Numbers c = escaped c
value_by Names c = named_value c

-- and for a value
abbrev pub value_text_by : Escapes → List ℕ → List ℕ
value_text_by escapes value = flat_map (λ c. value_by escapes c) value

-- ---- what is supposed of a table

-- it has these names, with these characters
pub record HasEscapes (references : List NamedReference) : Type 0 where
  pub amp : characters_of_name references (codes "amp;") ≡ Some (ampersand, None)
  pub nbsp : characters_of_name references (codes "nbsp;") ≡ Some (no_break_space, None)
  pub lt : characters_of_name references (codes "lt;") ≡ Some (less_than, None)
  pub gt : characters_of_name references (codes "gt;") ≡ Some (greater_than, None)
  pub quot : characters_of_name references (codes "quot;") ≡ Some (quotation_mark, None)

-- no table is needed to read numbers
abbrev pub Reads : Escapes → List NamedReference → Type 0
Reads Numbers references = Unit {0}
Reads Names references = HasEscapes references
