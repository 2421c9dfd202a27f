-- The ids of elements.
use Rattle.std.specs.Prelude.{ℕ, Bool, List, [], ◌∷◌, Option, None, Some, codes, if◌then◌else◌, false, ◌==◌, ◌||◌, not}
use Rattle.std.specs.BTreeSet.{insert_key}
use Rattle.std.specs.Cmp.Lexicographic.{slice_cmp}
use Rattle.std.specs.List.{list_all, list_any}
use Rattle.std.specs.Ordering.{nat_cmp}
use Rattle.std.specs.Str.{bytes_eq}
use Rattle.html5ever_interface.specs.Token.{TagOf}
use Rattle.markup5ever.specs.Names.{AttributeOf}

-- the value of the first attribute named `id`
unfoldable pub id_in : List AttributeOf → Option (List ℕ)
id_in [] = None
id_in (attribute ∷ attributes) = if bytes_eq attribute.name.local (codes "id") then Some attribute.value else id_in attributes

-- "The id attribute": a value may be an id if it isn't empty and has no white space
abbrev pub is_white_space : ℕ → Bool
is_white_space byte = (byte == 0x09) || (byte == 0x0A) || (byte == 0x0C) || (byte == 0x0D) || (byte == 0x20)

abbrev pub is_id : List ℕ → Bool
is_id [] = false
is_id (byte ∷ value) = list_all (λ byte. not (is_white_space byte)) (byte ∷ value)

abbrev pub id_where : Option (List ℕ) → Option (List ℕ)
id_where None = None
id_where (Some value) = if is_id value then Some value else None

abbrev pub id_of : TagOf → Option (List ℕ)
id_of tag = id_where (id_in tag.attributes)

-- whether an id is among those that were taken, which are in order
abbrev pub is_taken : List ℕ → List (List ℕ) → Bool
is_taken id ids = list_any (λ other. bytes_eq id other) ids

abbrev pub with_id : List ℕ → List (List ℕ) → List (List ℕ)
with_id id ids = insert_key (slice_cmp nat_cmp) ids id
