-- A page that is read, in the words of the program's filter.
use Rattle.std.proofs.Common.{◌≡◌, ℕ, List, ◌++◌, Option, refl, ap}
use Rattle.std.specs.Prelude.{Result, Ok, Err, OnErr, OnOk}
use Rattle.std.specs.List.{concat}
use Rattle.html5edit.specs.Changes.{Changes}
use Rattle.html5edit.specs.Pages.{Edited, edit_made, edited_page}
use Rattle.html5extract.specs.declared.bases.Bases.{Bases}
use Rattle.html5stream.specs.Pages.{Passage, ReadsPage, StopsPage}
use Rattle.markup5ever.specs.NamedReferences.{NamedReference}

module _ (references : List NamedReference) (changes : Changes) (bases : Bases) (unread left : Option (List ℕ)) where
  abbrev pub edited_with : List ℕ → Edited
  edited_with printed = record { printed = printed; changes = changes; bases = bases }

  abbrev pub passage : {S : Type 0} → S → S → Passage S
  passage before after = record { unread = unread; left = left; before = before; after = after }

  pub page-finished : (before after : List ℕ) → ReadsPage (λ (b : List ℕ) bytes. b ++ concat (edited_page references changes bases bytes)) (passage before after)
      → ReadsPage (λ s bytes. edit_made.handed s (edit_made.page references s bytes)) (passage (edited_with before) (edited_with after))
  page-finished before after reads = record {
    bytes = reads.bytes;
    consumed = reads.consumed;
    at_end = reads.at_end;
    utf8 = reads.utf8;
    told = ap edited_with reads.told;
  }

  pub page-stopped : (before after : List ℕ) → StopsPage (λ (b : List ℕ) bytes. edited_page references changes bases bytes) (λ b written. b ++ concat written) (passage before after)
      → StopsPage (edit_made.page references) edit_made.handed (passage (edited_with before) (edited_with after))
  page-stopped before after stops = record {
    text = stops.text;
    rest = stops.rest;
    consumed = stops.consumed;
    utf8 = stops.utf8;
    told = stops.told;
    untold = stops.untold;
    parts = stops.parts;
    state = ap edited_with stops.state;
  }

  -- as a call answers
  pub on-finished : {E : Type 0} (r : Result (Unit {0}) E) (before after : List ℕ)
      → OnOk r (ReadsPage (λ (b : List ℕ) bytes. b ++ concat (edited_page references changes bases bytes)) (passage before after))
      → OnOk r (ReadsPage (λ s bytes. edit_made.handed s (edit_made.page references s bytes)) (passage (edited_with before) (edited_with after)))
  on-finished (Ok x) before after reads = page-finished before after reads
  on-finished (Err e) before after reads = tt

  pub on-stopped : {E : Type 0} (r : Result (Unit {0}) E) (before after : List ℕ)
      → OnErr r (StopsPage (λ (b : List ℕ) bytes. edited_page references changes bases bytes) (λ b written. b ++ concat written) (passage before after))
      → OnErr r (StopsPage (edit_made.page references) edit_made.handed (passage (edited_with before) (edited_with after)))
  on-stopped (Ok x) before after stops = tt
  on-stopped (Err e) before after stops = page-stopped before after stops
