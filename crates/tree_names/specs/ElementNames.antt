-- The names of elements, in the words of contracts. Texts are the bytes of their UTF-8.
use Rattle.std.specs.Prelude.{ℕ, List, string_bytes}
use Rattle.tree_names.specs.Slots.{name_at}
use Rattle.tree_names.specs.declared.known.KnownName.{KnownName}
use Rattle.tree_names.specs.declared.name.ElementName.{ElementName}
use Rattle.tree_names.specs.declared.name.ElementName.TheVariants.{Known, Other}

-- the text of a name that the rows know
abbrev pub name_of : KnownName → List ℕ
name_of name = name_at name.place

-- the text of the name of an element
abbrev pub name_bytes : {Z : Type 0} → ElementName Z → List ℕ
name_bytes (Known name) = name_of name
name_bytes (Other text) = string_bytes text
