-- The open elements, as code has them: by tags, or in a tree.
use Rattle.std.specs.Prelude.{ℕ, List, drop}
use Rattle.html5cleaner.specs.Shape.{Shape}
use Rattle.html5cleaner.specs.Shape.Shape.{Tree}
use Rattle.html5cleaner.specs.declared.opened.Opened.{Opened}
use Rattle.html5cleaner.specs.declared.opened.Pending.{Pending}
use Rattle.html5cleaner.specs.declared.opened.Pending.TheVariants.{Tags, Tree as TreePending, Nothing, Opened as OpenedPending, Closes}
use Rattle.html5tree.specs.Nested.{Nested}

-- the names of the open elements of a page of that shape
abbrev pub names_in : {Z : Type 0} → Shape → Opened Z → List (List ℕ)
names_in (Tree limit) o = o.tree.opened
names_in other o = o.tags

abbrev innermost_closed : Nested → Nested
innermost_closed nested = record nested { opened = drop 1 nested.opened }

-- the open elements once a step is settled, or once it is undone
abbrev pub settled : {Z : Type 0} → Pending → Opened Z → Opened Z
settled (Tags change) o = record o { tags = drop change.close o.tags }
settled TreePending o = record o { tree = o.next; next = o.tree }
settled Nothing o = o
settled OpenedPending o = o
settled Closes o = record o { tree = innermost_closed o.tree }

abbrev pub undone : {Z : Type 0} → Pending → Opened Z → Opened Z
undone (Tags change) o = record o { tags = drop change.undo o.tags }
undone TreePending o = o
undone Nothing o = o
undone OpenedPending o = record o { tree = innermost_closed o.tree }
undone Closes o = o
