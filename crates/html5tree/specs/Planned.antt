-- What a plan of the code says.
use Rattle.std.specs.Prelude.{ℕ, List, [], ◌∷◌, codes}
use Rattle.html5tree.specs.Normal.{Plan}
use Rattle.html5tree.specs.declared.plans.Parents.{Parents}
use Rattle.html5tree.specs.declared.plans.Parents.TheVariants.{Nothing, Group, Body, BodyRow, Row, BodyRowCell, RowCell, Cell}
use Rattle.html5tree.specs.declared.plans.Plan.{Plan as PlanStruct}

-- the names of the parents, the outermost first
abbrev pub parents_said : Parents → List (List ℕ)
parents_said Nothing = []
parents_said Group = codes "colgroup" ∷ []
parents_said Body = codes "tbody" ∷ []
parents_said BodyRow = codes "tbody" ∷ codes "tr" ∷ []
parents_said Row = codes "tr" ∷ []
parents_said BodyRowCell = codes "tbody" ∷ codes "tr" ∷ codes "td" ∷ []
parents_said RowCell = codes "tr" ∷ codes "td" ∷ []
parents_said Cell = codes "td" ∷ []

abbrev pub plan_said : PlanStruct → Plan
plan_said plan = record { closes = plan.closes; opens = parents_said plan.opens; writes = plan.writes }
