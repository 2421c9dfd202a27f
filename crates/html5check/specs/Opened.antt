-- The elements that are open by their tags, innermost first.
use Rattle.std.specs.Prelude.{ℕ, ◌+◌, ◌==◌, Bool, false, List, [], ◌∷◌, map, reverse, take, if◌then◌else◌}
use Rattle.std.specs.Str.{bytes_eq}
use Rattle.html5check.specs.Elements.{ends_before, has_optional_end}
use Rattle.html5check.specs.declared.open_elements.OpenElement.{OpenElement}

-- an element that is open: its name, where its start tag stands, and whether its content is of another namespace
pub record Open : Type 0 where
  pub name : List ℕ
  pub begin : ℕ
  pub end : ℕ
  pub holds_foreign : Bool

abbrev pub open_by : OpenElement → Open
open_by e = record { name = e.name.now; begin = e.begin; end = e.end; holds_foreign = e.holds_foreign }

-- as code has them, innermost last
abbrev pub opened_by : List OpenElement → List Open
opened_by elements = reverse (map open_by elements)

-- whether the content of the innermost is of another namespace
abbrev pub holds_foreign : List Open → Bool
holds_foreign [] = false
holds_foreign (inner ∷ outer) = inner.holds_foreign

-- one more than some, or one by itself
abbrev pub and_this : Bool → ℕ → ℕ
and_this ends outer = if outer == 0 then (if ends then 1 else 0) else outer + 1

-- how many a start tag of this name ends: of the innermost whose end tags may be left out those down to the last that it ends itself
unfoldable pub ended_before : List Open → List ℕ → ℕ
ended_before [] name = 0
ended_before (inner ∷ outer) name =
    if has_optional_end inner.name then and_this (ends_before name inner.name) (ended_before outer name) else 0

-- with how many of the innermost an end tag is compared. Browsers keep no more open.
abbrev pub depth : ℕ
depth = 512

-- how many there are down to the innermost of this name, with that one, or 0 if none has the name
unfoldable pub reached : List Open → List ℕ → ℕ
reached [] name = 0
reached (inner ∷ outer) name = if bytes_eq inner.name name then 1 else (if reached outer name == 0 then 0 else reached outer name + 1)

-- how many an end tag of this name ends: those in the innermost of its name, and that one
abbrev pub closed_by : List Open → List ℕ → ℕ
closed_by opened name = reached (take depth opened) name
