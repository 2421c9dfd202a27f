use Rattle.std.proofs.Common.{[], ◌∷◌, refl, sym, subst, arith}
use Rattle.std.specs.Prelude.{Contains}
use Rattle.html5cli.specs.Ending.{IsNoTable, status_of}
use Rattle.devices.specs.declared.fault.Fault.TheVariants.{NotUtf8, Memory, Device}
use Rattle.html5cli.specs.declared.run.Ending.{Ending}
use Rattle.html5cli.specs.declared.run.Ending.TheVariants.{Printed, Usage, NoTable, Faulted}
use Rattle.markup5ever.specs.declared.data.TableError.TheVariants as table
use Rattle.html5cli.proofs.run.run.Goals as goal

Contains-status : (ending : Ending) → Contains (0 ∷ 2 ∷ 3 ∷ 4 ∷ 5 ∷ 6 ∷ []) (status_of ending)
Contains-status Printed = (0, omega arith, refl)
Contains-status Usage = (1, omega arith, refl)
Contains-status (NoTable table.Memory) = (4, omega arith, refl)
Contains-status (NoTable (table.BadName place)) = (3, omega arith, refl)
Contains-status (NoTable (table.ZeroCharacter place)) = (3, omega arith, refl)
Contains-status (NoTable (table.RepeatedName place)) = (3, omega arith, refl)
Contains-status (Faulted NotUtf8) = (2, omega arith, refl)
Contains-status (Faulted Memory) = (4, omega arith, refl)
Contains-status (Faulted Device) = (5, omega arith, refl)

Contains-no_table : (ending : Ending) → IsNoTable ending → Contains (4 ∷ 5 ∷ []) (status_of ending)
Contains-no_table Printed none = absurd none
Contains-no_table Usage none = absurd none
Contains-no_table (NoTable table.Memory) none = (1, omega arith, refl)
Contains-no_table (NoTable (table.BadName place)) none = (0, omega arith, refl)
Contains-no_table (NoTable (table.ZeroCharacter place)) none = (0, omega arith, refl)
Contains-no_table (NoTable (table.RepeatedName place)) none = (0, omega arith, refl)
Contains-no_table (Faulted fault) none = absurd none

pub returns-clause-status : goal.returns-clause-status
returns-clause-status g c = subst (λ n. Contains (0 ∷ 2 ∷ 3 ∷ 4 ∷ 5 ∷ 6 ∷ []) n) (sym c.report.ensures.status) (Contains-status c.print_by_words-ending.result)

pub returns-clause-faulty : goal.returns-clause-faulty
returns-clause-faulty g c = λ bad.
    let none = c.print_by_words-ending.ensures.faulty (rw c.deref.ensures.value bad) in
    let untouched = c.print_by_words-ending.ensures.unread none in
    (subst (λ n. Contains (4 ∷ 5 ∷ []) n) (sym c.report.ensures.status) (Contains-no_table c.print_by_words-ending.result none), untouched.0, untouched.1)
