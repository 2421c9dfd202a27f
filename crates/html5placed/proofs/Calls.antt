-- What the reading of a text says of the session around it. `v` is a session before a call, seen as `s`.
use Rattle.std.proofs.Common.{◌≡◌, ℕ, false, true, List, [], ◌++◌, length, drop, Result, Ok, Err, Some, refl, ap, sym, ◌∙◌, subst, arith}
use Rattle.std.specs.Prelude.{OnErr, OnOk}
use Rattle.std.specs.Str.{IsUtf8, chars}
use Rattle.std.proofs.lemmas.List.{length-take-le, take-append-drop}
use Rattle.html5placed.specs.PlacedRecords.{PlacedWriting, WritesOn, placed_step}
use Rattle.html5placed.specs.PlacedSessions.{Feeds, LosesPage, PlacedSessionOf, SaysFault, StandsBefore, StandsIn, Written, is_over, reading_in}
use Rattle.html5placed.proofs.Handed.{writes-none}
use Rattle.html5placed.proofs.Sessions.{first-at_end, first-within, stands-front, stands-more, written-all}
use Rattle.html5places.specs.Readers.{Reads, ReadsEnd, StopsAtEnd, StopsWithin}
use Rattle.html5reading.specs.Start.{Start}
use Rattle.utf8_pieces.specs.Pieces.{Decoding, EndsAtFault, IsNeverUtf8, place_after}

pub when-ok : {T E : Type 0} (r : Result T E) (x : T) {P : Type 0} → r ≡ Ok x → OnOk r P → P
when-ok r x {P} is said = subst (λ q. OnOk q P) is said

pub when-err : {T E : Type 0} (r : Result T E) (x : E) {P : Type 0} → r ≡ Err x → OnErr r P → P
when-err r x {P} is said = subst (λ q. OnErr q P) is said

-- nothing was read
pub same-decoder : (v s : PlacedSessionOf) (d : Decoding) → v ≡ s → d ≡ v.decoder → ◌≡◌ {A = PlacedSessionOf} (record v { decoder = d }) s
same-decoder v s d is same = ap (λ (e : Decoding). record v { decoder = e }) same ∙ is

pub writes-same : (v s : PlacedSessionOf) → v ≡ s → WritesOn s.records v.records
writes-same v s is = subst (λ (w : PlacedSessionOf). WritesOn w.records v.records) is (writes-none v.records)

-- ---- a text was read, after the decoder took bytes

module _ (v s : PlacedSessionOf) (is : v ≡ s) (t : PlacedSessionOf) (d : Decoding) (bytes text seen : List ℕ) (same_text : seen ≡ text) where
  rules-same : t.reader.exact ≡ v.reader.exact → t ≡ record v { decoder = d; reader = t.reader; records = t.records } → (reading_in t).rules ≡ (reading_in v).rules
  rules-same exact kept =
      ap (λ e. record { exact = e; references = t.references }) exact
      ∙ ap (λ l. record { exact = v.reader.exact; references = l }) (ap (λ (x : PlacedSessionOf). x.references) kept)

  read-text : Reads placed_step (reading_in v) (reading_in t) v.records t.records (chars seen)
      → Reads placed_step (reading_in v) (reading_in t) v.records t.records (chars text)
  read-text reads = subst (λ l. Reads placed_step (reading_in v) (reading_in t) v.records t.records (chars l)) same_text reads

  pub feeds-text : v.decoder.held ++ bytes ≡ text ++ d.held → IsUtf8 text → d.taken ≡ place_after v.decoder.taken (length text)
      → Reads placed_step (reading_in v) (reading_in t) v.records t.records (chars seen)
      → t.reader.exact ≡ v.reader.exact → t ≡ record v { decoder = d; reader = t.reader; records = t.records } → Feeds s t bytes
  feeds-text parts utf8 place reads exact kept =
      let decoder : t.decoder ≡ d = ap (λ (x : PlacedSessionOf). x.decoder) kept in
      subst (λ x. Feeds x t bytes) is
      (λ K page stands. stands-more v K page stands t bytes text (parts ∙ ap (λ (e : Decoding). text ++ e.held) (sym decoder)) utf8
      (ap (λ (e : Decoding). e.taken) decoder ∙ place) (read-text reads) (rules-same exact kept))

  pub loses-text : (rest : List ℕ) → v.decoder.held ++ bytes ≡ text ++ rest → IsUtf8 text
      → StopsWithin placed_step (reading_in v) v.records t.records (chars seen) → is_over t ≡ true → LosesPage s t bytes
  loses-text rest parts utf8 stops over =
      subst (λ x. LosesPage x t bytes) is
      (record { over = over; written = λ K page stands. first-within v K page stands t.records bytes text rest parts utf8 (subst (λ l. StopsWithin placed_step (reading_in v) v.records t.records (chars l)) same_text stops) })

  -- up to bytes that are not UTF-8
  pub front-parts : EndsAtFault v.decoder d (v.decoder.held ++ bytes) text → (rest : List ℕ) × (v.decoder.held ++ bytes ≡ text ++ rest)
  front-parts ends =
      let all : List ℕ = v.decoder.held ++ bytes in
      let n : ℕ = ends.valid_len in
      (drop n all, sym (take-append-drop n all) ∙ ap (λ l. l ++ drop n all) (sym ends.front))

  pub says-fault : (u : PlacedSessionOf) (place : ℕ) → IsNeverUtf8 (v.decoder.held ++ bytes) → EndsAtFault v.decoder d (v.decoder.held ++ bytes) text → IsUtf8 text
      → Reads placed_step (reading_in v) (reading_in t) v.records t.records (chars seen)
      → t.reader.exact ≡ v.reader.exact → t ≡ record v { decoder = d; reader = t.reader; records = t.records } → is_over t ≡ false
      → u ≡ t → place ≡ u.decoder.taken → SaysFault s (record u { error_at = Some place }) bytes place
  says-fault u place never ends utf8 reads exact kept going same at =
      let parts = front-parts ends in
      let decoder : t.decoder ≡ d = ap (λ (x : PlacedSessionOf). x.decoder) kept in
      let len : length text ≡ ends.valid_len =
      ap length ends.front ∙ length-take-le ends.valid_len (v.decoder.held ++ bytes) (let within = ends.valid.short in omega (arith, within)) in
      let taken : t.decoder.taken ≡ place_after v.decoder.taken ends.valid_len = ap (λ (e : Decoding). e.taken) decoder ∙ ends.taken in
      let here : place ≡ t.decoder.taken = at ∙ ap (λ (x : PlacedSessionOf). x.decoder.taken) same in
      subst (λ (x : PlacedSessionOf). SaysFault s (record x { error_at = Some place }) bytes place) (sym same)
      (subst (λ x. SaysFault x (record t { error_at = Some place }) bytes place) is
      (record {
        refused = never;
        valid_len = ends.valid_len;
        valid = ends.valid;
        place_is = here ∙ taken;
        reads = λ K page stands.
            subst (StandsBefore (record t { error_at = Some place }) K (page ++ bytes)) (sym here)
            (stands-front v K page stands (record t { error_at = Some place }) bytes text parts.0 parts.1 utf8
            (ap (λ (e : Decoding). e.held) decoder ∙ ends.held) (taken ∙ ap (place_after v.decoder.taken) (sym len)) (read-text reads) (rules-same exact kept));
        said = refl;
        going_on = going;
      }))

-- ---- the end

module _ (v s : PlacedSessionOf) (is : v ≡ s) where
  pub ends-page : (i : PlacedWriting) → s.decoder.held ≡ [] → ReadsEnd placed_step (reading_in v) v.records i
      → (K : Start) (page : List ℕ) → StandsIn s K page → Written (reading_in s).rules K page i.bytes
  ends-page i none reads =
      subst (λ (x : PlacedSessionOf). (K : Start) (page : List ℕ) → StandsIn x K page → Written (reading_in x).rules K page i.bytes) is
      (λ K page stands. written-all v K page stands i (subst (λ (x : PlacedSessionOf). x.decoder.held ≡ []) (sym is) none) reads)

  pub loses-end : (t : PlacedSessionOf) → StopsAtEnd placed_step (reading_in v) v.records t.records → is_over t ≡ true → LosesPage s t []
  loses-end t stops over =
      subst (λ x. LosesPage x t []) is
      (record { over = over; written = λ K page stands. first-at_end v K page stands t.records stops })
