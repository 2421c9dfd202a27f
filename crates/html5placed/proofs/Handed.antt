-- What tokens that are handed on make of what was written, and a reader that was without its table.
use Rattle.std.proofs.Common.{◌≡◌, ℕ, List, [], ◌∷◌, ◌++◌, refl, ap, sym, ◌∙◌, subst}
use Rattle.std.proofs.lemmas.List.{append-nil, append_assoc}
use Rattle.std.proofs.lemmas.List.Concat.{flat_map-append}
use Rattle.html5placed.specs.PlacedRecords.{PlacedWriting, WritesOn, placed_record, placed_records, placed_step}
use Rattle.html5placed.specs.PlacedSessions.{reading_with}
use Rattle.html5places.specs.Marks.{Placed}
use Rattle.html5places.specs.Placed.{Beginning, handed_on, placed_at_end, placed_by}
use Rattle.html5places.specs.Readers.{DetachedReaderOf, ReaderOf, Reading, Reads, ReadsEnd, StandsAfter, StopsAtEnd, StopsWithin, reader_with}
use Rattle.html5places.proofs.ManyCharacters.{stands-at_beginning}
use Rattle.html5reading.specs.Start.{Rules}
use Rattle.markup5ever.specs.NamedReferences.{NamedReference}

pub records-append : (a b : List Placed) → placed_records (a ++ b) ≡ placed_records a ++ placed_records b
unfolding placed_records
records-append a b = flat_map-append placed_record a b

pub records-nil : placed_records [] ≡ []
unfolding placed_records
records-nil = refl

-- the records of tokens that were handed on come after what was written
pub handed-bytes : (w : PlacedWriting) (placed : List Placed) → (handed_on placed_step w placed).bytes ≡ w.bytes ++ placed_records placed
unfolding handed_on placed_records
handed-bytes w [] = sym (append-nil w.bytes)
handed-bytes w (p ∷ placed) = handed-bytes (placed_step w p) placed ∙ append_assoc w.bytes (placed_record p) (placed_records placed)

pub handed-taken : (w : PlacedWriting) (placed : List Placed) → (handed_on placed_step w placed).taken ≡ w.taken
unfolding handed_on
handed-taken w [] = refl
handed-taken w (p ∷ placed) = handed-taken (placed_step w p) placed

-- ---- nothing is taken, and more comes after what was written

handed-writes : (h i : PlacedWriting) (placed : List Placed) → i ≡ handed_on placed_step h placed → WritesOn h i
handed-writes h i placed is = record {
  taken = ap (λ (w : PlacedWriting). w.taken) is ∙ handed-taken h placed;
  bytes = record { rest = placed_records placed; parts = ap (λ (w : PlacedWriting). w.bytes) is ∙ handed-bytes h placed };
}

-- a reading begins where it stands
abbrev here : Reading → Beginning
here r = record { start = r.position; marks = r.marks }

stands-here : (r : Reading) → StandsAfter r (here r) []
stands-here r = stands-at_beginning r (here r) refl refl

pub writes-read : (r q : Reading) (h i : PlacedWriting) (text : List ℕ) → Reads placed_step r q h i text → WritesOn h i
writes-read r q h i text reads = handed-writes h i (placed_by r.rules (here r) [] text) (reads (here r) [] (stands-here r)).handler

pub writes-stopped : (r : Reading) (h i : PlacedWriting) (text : List ℕ) → StopsWithin placed_step r h i text → WritesOn h i
writes-stopped r h i text stops =
    let part = stops (here r) [] (stands-here r) in
    handed-writes h i part.front part.state

pub writes-end : (r : Reading) (h i : PlacedWriting) → ReadsEnd placed_step r h i → WritesOn h i
writes-end r h i reads = handed-writes h i (placed_at_end r.rules (here r) []) (reads (here r) [] (stands-here r))

pub writes-end_stopped : (r : Reading) (h i : PlacedWriting) → StopsAtEnd placed_step r h i → WritesOn h i
writes-end_stopped r h i stops =
    let part = stops (here r) [] (stands-here r) in
    handed-writes h i part.front part.state

pub writes-none : (w : PlacedWriting) → WritesOn w w
writes-none w = record { taken = refl; bytes = record { rest = []; parts = sym (append-nil w.bytes) } }

-- ---- a reader between `attach` and `detach`

module _ (old : DetachedReaderOf) (references : List NamedReference) (r : ReaderOf) (attached : r ≡ reader_with old references) where
  first-is : r.reading ≡ reading_with old references
  first-is = ap (λ (x : ReaderOf). x.reading) attached

  pub attached-reads : (new : DetachedReaderOf) (q : ReaderOf) (h i : PlacedWriting) (text : List ℕ) → reader_with new q.reading.rules.references ≡ q
      → q.reading.rules ≡ r.reading.rules → Reads placed_step r.reading q.reading h i text
      → Reads placed_step (reading_with old references) (reading_with new references) h i text
  attached-reads new q h i text detached same reads =
      let table : q.reading.rules.references ≡ references = ap (λ (x : Rules). x.references) same ∙ ap (λ (x : ReaderOf). x.reading.rules.references) attached in
      let last : q.reading ≡ reading_with new references = ap (λ (x : ReaderOf). x.reading) (sym detached) ∙ ap (λ l. reading_with new l) table in
      subst (λ x. Reads placed_step x (reading_with new references) h i text) first-is
      (subst (λ y. Reads placed_step r.reading y h i text) last reads)

  pub attached-stops : (h i : PlacedWriting) (text : List ℕ) → StopsWithin placed_step r.reading h i text → StopsWithin placed_step (reading_with old references) h i text
  attached-stops h i text stops = subst (λ x. StopsWithin placed_step x h i text) first-is stops

  pub attached-end : (h i : PlacedWriting) → ReadsEnd placed_step r.reading h i → ReadsEnd placed_step (reading_with old references) h i
  attached-end h i reads = subst (λ x. ReadsEnd placed_step x h i) first-is reads

  pub attached-end_stops : (h i : PlacedWriting) → StopsAtEnd placed_step r.reading h i → StopsAtEnd placed_step (reading_with old references) h i
  attached-end_stops h i stops = subst (λ x. StopsAtEnd placed_step x h i) first-is stops
