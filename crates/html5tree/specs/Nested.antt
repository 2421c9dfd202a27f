-- What a nesting of the code is: the open elements, and those that its last item closed.
use Rattle.std.specs.Prelude.{ℕ, List, [], ◌∷◌, Option, Some, None, take}
use Rattle.html5tree.specs.ElementNames.{name_of}
use Rattle.html5tree.specs.Items.{Item}
use Rattle.html5tree.specs.Normal.{open_after_fitted, plan_of}
use Rattle.html5tree.specs.declared.names.ElementName.{ElementName}

pub record Nested : Type 0 where
  -- the names of the open elements, innermost first
  pub opened : List (List ℕ)
  -- the names of those that were closed for the last item, innermost first
  pub closed : List (List ℕ)
  -- how many may be open
  pub limit : ℕ

abbrev pub nothing_nested : ℕ → Nested
nothing_nested limit = record { opened = []; closed = []; limit = limit }

-- after an item
abbrev pub nested_after : Nested → Item → Nested
nested_after nested item = record {
  opened = open_after_fitted nested.limit nested.opened item;
  closed = take (plan_of nested.limit nested.opened item).closes nested.opened;
  limit = nested.limit;
}

-- the open elements with one more, if there is one
abbrev pub with_own : Option ElementName → List (List ℕ) → List (List ℕ)
with_own None stack = stack
with_own (Some name) stack = name_of name ∷ stack
