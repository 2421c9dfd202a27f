-- What the filter makes of pages: it prints what was found in them.
use Rattle.std.specs.Prelude.{ℕ, Bool, true, false, List, [], ◌∷◌, ◌++◌, ◌||◌, Option, string_bytes}
use Rattle.html5check.specs.declared.check.Check.{Check}
use Rattle.html5check.specs.declared.settings.CheckSettings.{CheckSettings}
use Rattle.html5check.specs.declared.template.Template.{Template}
use Rattle.html5check.specs.Located.{Located, located_in}
use Rattle.html5programs.specs.Filtering.{Making}

-- what was printed, the name of the file that is read, the template language that pages are in, and whether something was found
pub record Checks : Type 0 where
  pub printed : List ℕ
  pub file : List ℕ
  pub template : Option Template
  pub found : Bool

abbrev pub is_some_found : List Located → Bool
is_some_found [] = false
is_some_found (located ∷ more) = true

-- where a filter stands
abbrev pub checks_of : {W P : Type 0} → Check W P → Checks
checks_of c = record { printed = c.printer.printed; file = string_bytes c.file; template = c.template; found = c.has_found }

-- after what was found in a page, where `lines` says what is printed of it
abbrev pub checks_after : (Bool → List ℕ → List Located → List ℕ) → Checks → List Located → Checks
checks_after lines s located = record s { printed = s.printed ++ lines s.found s.file located; found = s.found || is_some_found located }

-- what is made of pages, where `end` says what is printed in the end
abbrev pub check_made : (Bool → List ℕ → List Located → List ℕ) → (Bool → List ℕ) → Making CheckSettings Located Checks
check_made lines end = record {
  started = λ settings printed. record { printed = printed; file = []; template = settings.template; found = false };
  named = λ file s. record s { file = file };
  begun = λ s. s;
  page = λ references s bytes. located_in references s.template bytes;
  handed = checks_after lines;
  printed = λ s. s.printed ++ end s.found;
  found = λ s. s.found;
}
