-- A page that is written, by other words for what is written of it.
use Rattle.std.proofs.Common.{◌≡◌, ℕ, List, ◌++◌, ap, sym, ◌∙◌}
use Rattle.std.specs.List.{concat}
use Rattle.html5stream.specs.Pages.{Passage, ReadsPage, StopsPage}

module _ (f g : List ℕ → List (List ℕ)) (same : (bytes : List ℕ) → f bytes ≡ g bytes) (known : Passage (List ℕ)) where
  pub reads-as : ReadsPage (λ before bytes. before ++ concat (f bytes)) known → ReadsPage (λ before bytes. before ++ concat (g bytes)) known
  reads-as reads = record {
    bytes = reads.bytes;
    consumed = reads.consumed;
    at_end = reads.at_end;
    utf8 = reads.utf8;
    told = reads.told ∙ ap (λ parts. known.before ++ concat parts) (same reads.bytes);
  }

  pub stops-as : StopsPage (λ (before : List ℕ) bytes. f bytes) (λ before written. before ++ concat written) known
      → StopsPage (λ (before : List ℕ) bytes. g bytes) (λ before written. before ++ concat written) known
  stops-as stops = record {
    text = stops.text;
    rest = stops.rest;
    consumed = stops.consumed;
    utf8 = stops.utf8;
    told = stops.told;
    untold = stops.untold;
    parts = sym (same stops.text) ∙ stops.parts;
    state = stops.state;
  }
