-- What the program makes of pages that are edited.
use Rattle.std.specs.Prelude.{ℕ, Bool, false, List, [], ◌++◌}
use Rattle.std.specs.List.{concat}
use Rattle.html5edit.specs.Changes.{Changes}
use Rattle.html5edit.specs.Editing.{editing, start_of_editing}
use Rattle.html5edit.specs.declared.settings.EditSettings.{EditSettings}
use Rattle.html5extract.specs.declared.bases.Bases.{Bases}
use Rattle.html5programs.specs.Filtering.{Making}
use Rattle.html5splice.specs.Pages.{page_parts}
use Rattle.markup5ever.specs.NamedReferences.{NamedReference}

-- what was printed, and by which settings
pub record Edited : Type 0 where
  pub printed : List ℕ
  pub changes : Changes
  pub bases : Bases

-- what is written of each token of a page
abbrev pub edited_page : List NamedReference → Changes → Bases → List ℕ → List (List ℕ)
edited_page references changes bases bytes = page_parts editing references (start_of_editing changes bases) bytes

abbrev pub edits_started : EditSettings → List ℕ → Edited
edits_started settings printed = record { printed = printed; changes = settings.changes; bases = settings.bases }

abbrev pub edit_made : Making EditSettings (List ℕ) Edited
edit_made = record {
  started = edits_started;
  named = λ file s. s;
  begun = λ s. s;
  page = λ references s bytes. edited_page references s.changes s.bases bytes;
  handed = λ s written. record s { printed = s.printed ++ concat written };
  printed = λ s. s.printed;
  found = λ s. false;
}
