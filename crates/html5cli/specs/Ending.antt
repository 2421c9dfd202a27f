-- How a run of the program ends: the status, the line that tells why no answer was given, and what was printed.
use Rattle.std.specs.Prelude.{◌≡◌, ℕ, ◌+◌, List, [], ◌++◌, ◌⊎◌, Option, Some, IsSome, IsSomeAnd, codes, decimal}
use Rattle.std.specs.Io.KnownBytes.{Appends}
use Rattle.devices.specs.Device.{AppendsBeginning, device_failures}
use Rattle.html5cli.specs.Printing.{Traffic, PrintsReading, PrintsBeginning}
use Rattle.html5cli.specs.Settings.{settings_said}
use Rattle.devices.specs.declared.fault.Fault.TheVariants.{NotUtf8, Memory, Device}
use Rattle.html5cli.specs.declared.run.Ending.{Ending}
use Rattle.html5cli.specs.declared.run.Ending.TheVariants.{Printed, Usage, NoTable, Faulted}
use Rattle.markup5ever.specs.NamedReferences.{first_fault, table_of}
use Rattle.markup5ever.specs.declared.data.TableError.{TableError}
use Rattle.markup5ever.specs.declared.data.TableError.TheVariants as table

abbrev pub status_of : Ending → ℕ
status_of Printed = 0
status_of Usage = 2
status_of (NoTable table.Memory) = 5
status_of (NoTable (table.BadName place)) = 4
status_of (NoTable (table.ZeroCharacter place)) = 4
status_of (NoTable (table.RepeatedName place)) = 4
status_of (Faulted NotUtf8) = 3
status_of (Faulted Memory) = 5
status_of (Faulted Device) = 6

abbrev pub line_of : Ending → List ℕ
line_of Printed = []
line_of Usage = codes "usage: html5tok [--exact] [--keep-bom] [--foreign] [--state S] [--last NAME] [--cut N] [--table LIST]\n"
line_of (NoTable table.Memory) = codes "out of memory\n"
line_of (NoTable (table.BadName place)) = codes "table: bad name at " ++ decimal place ++ codes "\n"
line_of (NoTable (table.ZeroCharacter place)) = codes "table: zero character at " ++ decimal place ++ codes "\n"
line_of (NoTable (table.RepeatedName place)) = codes "table: repeated name at " ++ decimal place ++ codes "\n"
line_of (Faulted NotUtf8) = codes "input is not UTF-8\n"
line_of (Faulted Memory) = codes "out of memory\n"
line_of (Faulted Device) = codes "read or write failed\n"

-- how many failures of its devices an ending tells
abbrev pub failures_of : Ending → ℕ
failures_of Printed = 0
failures_of Usage = 0
failures_of (NoTable error) = 0
failures_of (Faulted fault) = device_failures fault

-- a device's known bytes grow by the line, or a write failed after a prefix of it, and none was tried again
abbrev pub TriesLine : {E : Type 0} → (E → Option (List ℕ)) → (E → ℕ) → E → E → List ℕ → Type 0
TriesLine contents failures before after line =
    ((failures after ≡ failures before) × Appends (contents before) (contents after) line)
    ⊎ ((failures after ≡ failures before + 1) × AppendsBeginning (contents before) (contents after) line)

-- the list makes no table
abbrev pub IsNoTable : Ending → Type 0
IsNoTable Printed = ⊥
IsNoTable Usage = ⊥
IsNoTable (NoTable error) = Unit {0}
IsNoTable (Faulted fault) = ⊥

-- the words say some settings, whose entries have this first fault
abbrev pub SayFault : List (List ℕ) → TableError → Type 0
SayFault words error = IsSomeAnd (settings_said words) (λ settings. first_fault settings.table ≡ Some error)

-- the words say some settings, whose entries have a fault
abbrev pub SayBadTable : List (List ℕ) → Type 0
SayBadTable words = IsSomeAnd (settings_said words) (λ settings. IsSome (first_fault settings.table))

-- the words say some settings, and by these and their table the whole reading was printed
abbrev pub PrintsAsSaid : List (List ℕ) → Traffic → Type 0
PrintsAsSaid words known = IsSomeAnd (settings_said words) (λ settings. PrintsReading settings (table_of settings.table) known)

-- the same, but only a prefix was printed
abbrev pub PrintsBeginningAsSaid : List (List ℕ) → Traffic → Type 0
PrintsBeginningAsSaid words known = IsSomeAnd (settings_said words) (λ settings. PrintsBeginning settings (table_of settings.table) known)
