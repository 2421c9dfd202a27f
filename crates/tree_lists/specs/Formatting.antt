-- The list of active formatting elements of code, as that of the definition.
use Rattle.std.specs.Prelude.{ℕ, Bool, false, not, List, [], ◌∷◌, Option, Some, None, map, nat_le, if◌then◌else◌}
use Rattle.markup5ever.specs.Names.{AttributeOf}
use Rattle.tree_construction.specs.Adoption.{remade, replaced}
use Rattle.tree_construction.specs.Formatting.{Listed, count_alike, without_earliest}
use Rattle.tree_construction.specs.Page.{Open, has_number, has_open}
use Rattle.tree_construction.specs.Parser.{Entry}
use Rattle.tree_construction.specs.Parser.Entry.{Marker, Active}
use Rattle.tree_names.specs.ElementNames.{name_bytes}
use Rattle.tree_construction.specs.declared.kinds.Kind.{Kind}
use Rattle.tree_construction.specs.declared.kinds.Kind.TheVariants.{Anchor, Font, Formatting as FormattingElement, NoBreak}
use Rattle.tree_lists.specs.declared.formatting.Formatting.{Formatting}
use Rattle.tree_lists.specs.declared.formatting.FormattingKind.{FormattingKind}
use Rattle.tree_lists.specs.declared.formatting.FormattingKind.TheVariants.{Anchor as AnchorOf, Font as FontOf, Formatting as FormattingOf, NoBreak as NoBreakOf}
use Rattle.tree_lists.specs.declared.formatting.FormatEntry.{FormatEntry}
use Rattle.tree_lists.specs.declared.formatting.FormatEntry.TheVariants.{Mark, Active as ActiveEntry}

abbrev pub formatting_kind : FormattingKind → Kind
formatting_kind AnchorOf = Anchor
formatting_kind FontOf = Font
formatting_kind FormattingOf = FormattingElement
formatting_kind NoBreakOf = NoBreak

abbrev pub listed_of : {H T Z : Type 0} → (H → ℕ) → (T → List AttributeOf) → Formatting H T Z → Listed
listed_of node said e = record { node = node e.handle; kind = formatting_kind e.kind; name = name_bytes e.name; attributes = said e.attributes }

-- the entry of an element
abbrev pub active_of : Listed → Entry
active_of e = Active e.node e.kind e.name e.attributes

abbrev pub entry_of : {H T Z : Type 0} → (H → ℕ) → (T → List AttributeOf) → FormatEntry H T Z → Entry
entry_of node said Mark = Marker
entry_of node said (ActiveEntry e) = active_of (listed_of node said e)

abbrev pub entries_of : {H T Z : Type 0} → (H → ℕ) → (T → List AttributeOf) → List (FormatEntry H T Z) → List Entry
entries_of node said items = map (entry_of node said) items

-- an entry for another node
abbrev pub with_node : ℕ → Entry → Entry
with_node n Marker = Marker
with_node n (Active m kind name attributes) = Active n kind name attributes

-- with room for an element, by the Noah's Ark clause
abbrev pub with_room : List ℕ → List AttributeOf → List Entry → List Entry
with_room name attributes list = if nat_le 3 (count_alike name attributes list) then without_earliest name attributes list else list

-- whether the last entry is of an element that is not open
abbrev pub is_lost : List Open → List Entry → Bool
is_lost opened [] = false
is_lost opened (Marker ∷ list) = false
is_lost opened (Active n kind name attributes ∷ list) = not (has_open (has_number n) opened)

abbrev pub before_lost : Option Listed → List Listed → List Listed
before_lost None lost = lost
before_lost (Some e) lost = e ∷ lost

-- the entry of a node for another node, in its place
abbrev pub renewed : Option Listed → (n new : ℕ) → List Entry → List Entry
renewed None n new list = list
renewed (Some e) n new list = replaced n (remade new e) list
