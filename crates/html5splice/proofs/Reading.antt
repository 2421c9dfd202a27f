-- What reading on makes of a page that is spliced.
use Rattle.std.proofs.Common.{◌≡◌, ℕ, true, List, [], ◌∷◌, ◌++◌, refl, ap, sym, ◌∙◌, subst}
use Rattle.std.specs.Prelude.{encode_utf8_all}
use Rattle.std.specs.List.{concat}
use Rattle.std.specs.Str.{IsUtf8, chars}
use Rattle.std.proofs.lemmas.List.{append-nil, append_assoc}
use Rattle.std.proofs.lemmas.Str.{encodes-chars}
use Rattle.html5places.specs.Marks.{Placed}
use Rattle.html5places.specs.Placed.{at_first_byte, handed_on, placed_at_end, placed_by, placed_tokens}
use Rattle.html5places.specs.Readers.{IsPart, Reading, Reads, ReadsEnd, StopsAtEnd, StopsWithin, TextRead}
use Rattle.html5places.proofs.Pieces.{placed_by-append, placed_by-nil}
use Rattle.html5reading.specs.Start.{Rules, Start, nothing_open}
use Rattle.html5splice.specs.Cuts.{cuts_of}
use Rattle.html5splice.specs.Edits.{Splices, parts}
use Rattle.html5splice.specs.Splicing.{EndsSplicing, Splicing, SplicesOn, StandsSpliced, StopsSplicing, WritesBeginning, led_by, splicing_step}
use Rattle.html5splice.proofs.Pieces.{grown, led-end, led-on, stops-at, stops-on}

module _ {S : Type 0} (splices : Splices S) (r : Reading) (t u : Splicing S) where
  -- a text was read
  pub on-read : (q : Reading) (text : List ℕ) → IsUtf8 text → Reads (splicing_step splices) r q (grown splices t text) u (chars text) → q.rules ≡ r.rules
      → SplicesOn splices r q t u (chars text)
  on-read q text utf8 reads same = λ K s written before clean stands.
      let read : TextRead (splicing_step splices) r q (grown splices t text) u (at_first_byte K) before (chars text) = reads (at_first_byte K) before stands.reader in
      let next : List Placed = placed_by r.rules (at_first_byte K) before (chars text) in
      let last : List Placed = placed_at_end r.rules (at_first_byte K) (before ++ chars text) in
      record {
        reader = read.stands;
        handler =
            read.handler
            ∙ ap (λ x. handed_on (splicing_step splices) (grown splices x text) next) stands.handler
            ∙ ap (λ l. handed_on (splicing_step splices) (grown splices (led_by splices (encode_utf8_all before) s written 0 (placed_by r.rules (at_first_byte K) [] before)) l) next)
            (sym (encodes-chars text utf8))
            ∙ led-on splices r.rules K clean s written before (chars text) next last refl
            ∙ ap (led_by splices (encode_utf8_all (before ++ chars text)) s written 0)
            (sym (placed_by-append r.rules (at_first_byte K) [] before (chars text))
            ∙ ap (λ rules. placed_by rules (at_first_byte K) [] (before ++ chars text)) (sym same));
      }

  -- the reading of a text stopped
  pub on-stopped : (text : List ℕ) → IsUtf8 text → StopsWithin (splicing_step splices) r (grown splices t text) u (chars text)
      → StopsSplicing splices r t (chars text) u.written
  on-stopped text utf8 stops = λ K s written before clean stands.
      let part : IsPart (splicing_step splices) (grown splices t text) (placed_by r.rules (at_first_byte K) before (chars text)) u = stops (at_first_byte K) before stands.reader in
      let last : List Placed = placed_at_end r.rules (at_first_byte K) (before ++ chars text) in
      stops-on splices r.rules K clean s written before (chars text) part.front (part.back ++ last) u.written
      (ap (λ l. l ++ last) part.parts ∙ append_assoc part.front part.back last)
      (ap (λ (x : Splicing S). x.written)
      (part.state
      ∙ ap (λ x. handed_on (splicing_step splices) (grown splices x text) part.front) stands.handler
      ∙ ap (λ l. handed_on (splicing_step splices) (grown splices (led_by splices (encode_utf8_all before) s written 0 (placed_by r.rules (at_first_byte K) [] before)) l) part.front)
      (sym (encodes-chars text utf8))))

  -- nothing of a text was read
  pub on-nothing : (text : List ℕ) → u.written ≡ t.written → StopsSplicing splices r t text u.written
  unfolding handed_on
  on-nothing text same = λ K s written before clean stands.
      let last : List Placed = placed_by r.rules (at_first_byte K) before text ++ placed_at_end r.rules (at_first_byte K) (before ++ text) in
      stops-on splices r.rules K clean s written before text [] last u.written refl (same ∙ ap (λ (x : Splicing S). x.written) stands.handler)

  -- the end was read
  pub on-end : ReadsEnd (splicing_step splices) r t u → EndsSplicing splices r t u.written
  on-end reads = λ K s written text clean stands.
      let last : List Placed = placed_at_end r.rules (at_first_byte K) text in
      ap (λ (x : Splicing S). x.written)
      (reads (at_first_byte K) text stands.reader
      ∙ ap (λ x. handed_on (splicing_step splices) x last) stands.handler
      ∙ led-end splices r.rules K clean s written text last [] (sym (append-nil last)))

  -- the reading of the end stopped
  pub on-end_stopped : StopsAtEnd (splicing_step splices) r t u → StopsSplicing splices r t [] u.written
  on-end_stopped stops = λ K s written before clean stands.
      let part : IsPart (splicing_step splices) t (placed_at_end r.rules (at_first_byte K) before) u = stops (at_first_byte K) before stands.reader in
      let tokens : List Placed = placed_by r.rules (at_first_byte K) [] before in
      subst (λ text. WritesBeginning splices r.rules K s written text u.written) (sym (append-nil before))
      (stops-at splices r.rules K clean s written before (tokens ++ part.front) part.back u.written
      (ap (λ l. tokens ++ l) part.parts ∙ sym (append_assoc tokens part.front part.back))
      (ap (λ (x : Splicing S). x.written)
      (part.state
      ∙ ap (λ x. handed_on (splicing_step splices) x part.front) stands.handler
      ∙ led-end splices r.rules K clean s written before part.front part.back part.parts)))
