-- The open elements of code, as those of the definition.
use Rattle.std.specs.Prelude.{ℕ, ◌+◌, List, map, Option, Some, None}
use Rattle.tree_construction.specs.Page.{Open}
use Rattle.tree_names.specs.ElementNames.{name_bytes}
use Rattle.tree_lists.specs.declared.opened.OpenElement.{OpenElement}

abbrev pub open_of : {H Z : Type 0} → (H → ℕ) → OpenElement H Z → Open
open_of node e = record { node = node e.handle; kind = e.kind; name = name_bytes e.name }

abbrev pub opened_of : {H Z : Type 0} → (H → ℕ) → List (OpenElement H Z) → List Open
opened_of node items = map (open_of node) items

-- a depth from one on, or else another
abbrev pub later_depth : ℕ → Option ℕ → Option ℕ → Option ℕ
later_depth d None other = other
later_depth d (Some k) other = Some (d + k)

-- the number of a node, if there is one
abbrev pub node_in : {H : Type 0} → (H → ℕ) → Option H → Option ℕ
node_in node None = None
node_in node (Some handle) = Some (node handle)
