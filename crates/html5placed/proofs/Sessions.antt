-- What a call makes of where a session stands.
use Rattle.std.proofs.Common.{◌≡◌, ℕ, ◌+◌, List, [], ◌++◌, length, refl, ap, sym, ◌∙◌, subst, arith}
use Rattle.std.specs.Str.{IsUtf8, chars}
use Rattle.std.proofs.lemmas.List.{append-nil, append_assoc, length-append}
use Rattle.std.proofs.lemmas.Str.{IsUtf8-append, IsUtf8-nil, chars-append, chars-nil}
use Rattle.html5placed.specs.PlacedRecords.{PlacedWriting, placed_records, placed_step}
use Rattle.html5placed.specs.PlacedSessions.{PlacedSessionOf, StandsBefore, StandsIn, Written, WrittenFirst, reading_in, reading_with}
use Rattle.html5placed.proofs.Handed.{handed-bytes, records-append, records-nil}
use Rattle.html5places.specs.Marks.{Placed}
use Rattle.html5places.specs.Placed.{at_first_byte, placed_at_end, placed_by}
use Rattle.html5places.specs.Readers.{ReaderOf, Reads, ReadsEnd, StandsAfter, StopsAtEnd, StopsWithin, reader_with}
use Rattle.html5places.proofs.Pieces.{placed_by-append, placed_by-nil}
use Rattle.html5reading.specs.Start.{Rules, Start}
use Rattle.utf8_pieces.specs.Pieces.{place_after}

twice : (a b : ℕ) → place_after (place_after 0 a) b ≡ place_after 0 (a + b)
twice a b = omega arith

-- a new session
pub stands-first : (s : PlacedSessionOf) (K : Start) (r : ReaderOf) → reader_with s.reader r.reading.rules.references ≡ r → r.reading.rules.references ≡ s.references
    → StandsAfter r.reading (at_first_byte K) [] → s.decoder.held ≡ [] → s.decoder.taken ≡ 0 → s.records.bytes ≡ [] → StandsIn s K []
stands-first s K r detached table stands held taken none =
    let is : r.reading ≡ reading_in s = ap (λ (x : ReaderOf). x.reading) (sym detached) ∙ ap (λ l. reading_with s.reader l) table in
    record {
      text = [];
      whole = sym held;
      utf8 = IsUtf8-nil;
      place = taken;
      reader = subst (StandsAfter (reading_in s) (at_first_byte K)) (sym chars-nil) (subst (λ x. StandsAfter x (at_first_byte K) []) is stands);
      written =
          none
          ∙ sym records-nil
          ∙ ap placed_records (sym (placed_by-nil (reading_in s).rules (at_first_byte K) []))
          ∙ ap (λ l. placed_records (placed_by (reading_in s).rules (at_first_byte K) [] l)) (sym chars-nil);
    }

module _ (s : PlacedSessionOf) (K : Start) (page : List ℕ) (stands : StandsIn s K page) where
  abbrev R : Rules
  R = (reading_in s).rules

  -- the tokens of the text so far, and of more text
  abbrev tokens : List ℕ → List Placed
  tokens text = placed_by R (at_first_byte K) [] text

  abbrev next : List ℕ → List Placed
  next text = placed_by R (at_first_byte K) (chars stands.text) (chars text)

  both : (text : List ℕ) → chars (stands.text ++ text) ≡ chars stands.text ++ chars text
  both text = chars-append stands.text text stands.utf8

  tokens-both : (text : List ℕ) → tokens (chars (stands.text ++ text)) ≡ tokens (chars stands.text) ++ next text
  tokens-both text = ap tokens (both text) ∙ placed_by-append R (at_first_byte K) [] (chars stands.text) (chars text)

  -- the records of what was handed on after what was written
  written-more : (i : PlacedWriting) (placed : List Placed) → i.bytes ≡ s.records.bytes ++ placed_records placed
      → i.bytes ≡ placed_records (tokens (chars stands.text) ++ placed)
  written-more i placed is =
      is ∙ ap (λ l. l ++ placed_records placed) stands.written ∙ sym (records-append (tokens (chars stands.text)) placed)

  -- a text was read on
  stands-text : (t : PlacedSessionOf) (text : List ℕ) → IsUtf8 text → t.decoder.taken ≡ place_after s.decoder.taken (length text)
      → Reads placed_step (reading_in s) (reading_in t) s.records t.records (chars text) → (reading_in t).rules ≡ R
      → StandsIn t K ((stands.text ++ text) ++ t.decoder.held)
  stands-text t text utf8 place reads rules =
      let one = reads (at_first_byte K) (chars stands.text) stands.reader in
      record {
        text = stands.text ++ text;
        whole = refl;
        utf8 = IsUtf8-append stands.text text stands.utf8 utf8;
        place = place ∙ ap (λ n. place_after n (length text)) stands.place ∙ twice (length stands.text) (length text) ∙ ap (place_after 0) (sym (length-append stands.text text));
        reader = subst (StandsAfter (reading_in t) (at_first_byte K)) (sym (both text)) one.stands;
        written =
            written-more t.records (next text) (ap (λ (w : PlacedWriting). w.bytes) one.handler ∙ handed-bytes s.records (next text))
            ∙ ap placed_records (sym (tokens-both text))
            ∙ ap (λ (r : Rules). placed_records (placed_by r (at_first_byte K) [] (chars (stands.text ++ text)))) (sym rules);
      }

  page-parts : (bytes text rest : List ℕ) → s.decoder.held ++ bytes ≡ text ++ rest → page ++ bytes ≡ (stands.text ++ text) ++ rest
  page-parts bytes text rest parts =
      ap (λ l. l ++ bytes) stands.whole
      ∙ append_assoc stands.text s.decoder.held bytes
      ∙ ap (λ l. stands.text ++ l) parts
      ∙ sym (append_assoc stands.text text rest)

  -- bytes were fed
  pub stands-more : (t : PlacedSessionOf) (bytes text : List ℕ) → s.decoder.held ++ bytes ≡ text ++ t.decoder.held → IsUtf8 text
      → t.decoder.taken ≡ place_after s.decoder.taken (length text)
      → Reads placed_step (reading_in s) (reading_in t) s.records t.records (chars text) → (reading_in t).rules ≡ R
      → StandsIn t K (page ++ bytes)
  stands-more t bytes text parts utf8 place reads rules =
      subst (StandsIn t K) (sym (page-parts bytes text t.decoder.held parts)) (stands-text t text utf8 place reads rules)

  -- bytes were fed up to a place
  pub stands-front : (t : PlacedSessionOf) (bytes text rest : List ℕ) → s.decoder.held ++ bytes ≡ text ++ rest → IsUtf8 text → t.decoder.held ≡ []
      → t.decoder.taken ≡ place_after s.decoder.taken (length text)
      → Reads placed_step (reading_in s) (reading_in t) s.records t.records (chars text) → (reading_in t).rules ≡ R
      → StandsBefore t K (page ++ bytes) t.decoder.taken
  stands-front t bytes text rest parts utf8 none place reads rules =
      let front : List ℕ = stands.text ++ text in
      record {
        front = front;
        rest = rest;
        whole = page-parts bytes text rest parts;
        stands = subst (StandsIn t K) (ap (λ l. front ++ l) none ∙ append-nil front) (stands-text t text utf8 place reads rules);
        place_is = place ∙ ap (λ n. place_after n (length text)) stands.place ∙ twice (length stands.text) (length text) ∙ ap (place_after 0) (sym (length-append stands.text text));
      }

  -- the reading stopped within a text
  pub first-within : (i : PlacedWriting) (bytes text rest : List ℕ) → s.decoder.held ++ bytes ≡ text ++ rest → IsUtf8 text
      → StopsWithin placed_step (reading_in s) s.records i (chars text) → WrittenFirst R K (page ++ bytes) i.bytes
  first-within i bytes text rest parts utf8 stops =
      let part = stops (at_first_byte K) (chars stands.text) stands.reader in
      let so_far : List Placed = tokens (chars stands.text) in
      let last : List Placed = placed_at_end R (at_first_byte K) (chars (stands.text ++ text)) in
      record {
        text = stands.text ++ text;
        rest = rest;
        whole = page-parts bytes text rest parts;
        utf8 = IsUtf8-append stands.text text stands.utf8 utf8;
        front = so_far ++ part.front;
        back = part.back ++ last;
        tokens =
            ap (λ l. l ++ last) (tokens-both text ∙ ap (λ l. so_far ++ l) part.parts ∙ sym (append_assoc so_far part.front part.back))
            ∙ append_assoc (so_far ++ part.front) part.back last;
        records = written-more i part.front (ap (λ (w : PlacedWriting). w.bytes) part.state ∙ handed-bytes s.records part.front);
      }

  -- ---- the end

  pub written-all : (i : PlacedWriting) → s.decoder.held ≡ [] → ReadsEnd placed_step (reading_in s) s.records i → Written R K page i.bytes
  written-all i none reads =
      let is : page ≡ stands.text = stands.whole ∙ ap (λ l. stands.text ++ l) none ∙ append-nil stands.text in
      let last : List Placed = placed_at_end R (at_first_byte K) (chars stands.text) in
      subst (λ l. Written R K l i.bytes) (sym is)
      (record {
        utf8 = stands.utf8;
        records = written-more i last (ap (λ (w : PlacedWriting). w.bytes) (reads (at_first_byte K) (chars stands.text) stands.reader) ∙ handed-bytes s.records last);
      })

  pub first-at_end : (i : PlacedWriting) → StopsAtEnd placed_step (reading_in s) s.records i → WrittenFirst R K (page ++ []) i.bytes
  first-at_end i stops =
      let part = stops (at_first_byte K) (chars stands.text) stands.reader in
      let so_far : List Placed = tokens (chars stands.text) in
      record {
        text = stands.text;
        rest = s.decoder.held;
        whole = append-nil page ∙ stands.whole;
        utf8 = stands.utf8;
        front = so_far ++ part.front;
        back = part.back;
        tokens = ap (λ l. so_far ++ l) part.parts ∙ sym (append_assoc so_far part.front part.back);
        records = written-more i part.front (ap (λ (w : PlacedWriting). w.bytes) part.state ∙ handed-bytes s.records part.front);
      }
