-- What a splicing handler makes of tokens that follow one another.
use Rattle.std.proofs.Common.{◌≡◌, ◌≤◌, ℕ, ◌+◌, Bool, true, false, List, [], ◌∷◌, ◌++◌, length, refl, ap, sym, ◌∙◌, subst, arith}
use Rattle.std.specs.Prelude.{◌==◌, ◌&&◌, ◌-◌, drop, take, if◌then◌else◌}
use Rattle.std.specs.List.{concat}
use Rattle.std.proofs.lemmas.Bool.{eqb-true}
use Rattle.std.proofs.lemmas.List.{append-nil, append_assoc}
use Rattle.html5places.specs.Marks.{Placed}
use Rattle.html5places.specs.Placed.{follow, handed_on, is_error}
use Rattle.html5splice.specs.Cuts.{CutOf, between, cut_at, cuts_of}
use Rattle.html5splice.specs.Edits.{Splices, after_cuts, parts, spliced}
use Rattle.html5splice.specs.Splicing.{Splicing, Waiting, end_of, front_cut, led_by, spliced_cut, splicing_step, waiting_from, window_after}
use Rattle.html5splice.proofs.Bytes.{drop-later}
use Rattle.html5splice.proofs.Cutting.{AllLie, Lies, and-left, and-right, follow_by}

module _ {S : Type 0} (splices : Splices S) where
  abbrev at_place : List ℕ → S → List ℕ → ℕ → Splicing S
  at_place bytes s written base = record { splicer = s; written = written; window = waiting_from bytes base }

  -- the cut at the front of the waiting text is that of the bytes
  front-is : (bytes : List ℕ) (base : ℕ) (p : Placed) → p.places.text ≡ base → Lies (length bytes) p → front_cut (waiting_from bytes base) p ≡ cut_at bytes p
  front-is bytes base p at lies =
      let run = lies.run in
      ap (λ n. record { run = take (p.places.begin - n) (drop n bytes); text = p.run; source = take (p.places.end - p.places.begin) (drop (p.places.begin - base) (drop base bytes)); token = p.token; line = p.line }) (sym at)
      ∙ ap (λ l. record { run = between p.places.text p.places.begin bytes; text = p.run; source = take (p.places.end - p.places.begin) l; token = p.token; line = p.line })
      (drop-later base p.places.begin bytes (omega (arith, at, run)))

  window-is : (bytes : List ℕ) (base : ℕ) (p : Placed) → p.places.text ≡ base → Lies (length bytes) p → window_after (waiting_from bytes base) p ≡ waiting_from bytes p.places.end
  window-is bytes base p at lies =
      let run = lies.run in
      let token = lies.token in
      ap (λ l. record { bytes = l; base = p.places.end }) (drop-later base p.places.end bytes (omega (arith, at, run, token)))

  cut-is : (bytes : List ℕ) (s : S) (written : List ℕ) (base : ℕ) (p : Placed) → p.places.text ≡ base → Lies (length bytes) p
      → spliced_cut splices (at_place bytes s written base) (front_cut (waiting_from bytes base) p) (window_after (waiting_from bytes base) p)
      ≡ at_place bytes (splices.step s (cut_at bytes p)) (written ++ spliced (splices.edits s (cut_at bytes p)) (cut_at bytes p)) p.places.end
  cut-is bytes s written base p at lies =
      ap (λ c. spliced_cut splices (at_place bytes s written base) c (window_after (waiting_from bytes base) p)) (front-is bytes base p at lies)
      ∙ ap (spliced_cut splices (at_place bytes s written base) (cut_at bytes p)) (window-is bytes base p at lies)

  -- one token and those after it
  step-one : (b : Bool) (bytes : List ℕ) (s : S) (written : List ℕ) (base : ℕ) (p : Placed) (placed : List Placed) → Lies (length bytes) p → follow_by b base p placed ≡ true
      → ((t : S) (w : List ℕ) (k : ℕ) → follow k placed ≡ true → handed_on (splicing_step splices) (at_place bytes t w k) placed ≡ led_by splices bytes t w k placed)
      → handed_on (splicing_step splices)
      (if b then (at_place bytes s written base) else (spliced_cut splices (at_place bytes s written base) (front_cut (waiting_from bytes base) p) (window_after (waiting_from bytes base) p))) placed
      ≡ record {
        splicer = after_cuts splices s (if b then cuts_of bytes placed else (cut_at bytes p ∷ cuts_of bytes placed));
        written = written ++ concat (parts splices s (if b then cuts_of bytes placed else (cut_at bytes p ∷ cuts_of bytes placed)));
        window = waiting_from bytes (end_of (if b then base else p.places.end) placed);
      }
  unfolding after_cuts parts
  step-one true bytes s written base p placed lies follows rest = rest s written base follows
  step-one false bytes s written base p placed lies follows rest =
      let at : p.places.text ≡ base = eqb-true p.places.text base (and-left (p.places.text == base) (follow p.places.end placed) follows) in
      let c : CutOf = cut_at bytes p in
      let part : List ℕ = spliced (splices.edits s c) c in
      ap (λ t. handed_on (splicing_step splices) t placed) (cut-is bytes s written base p at lies)
      ∙ rest (splices.step s c) (written ++ part) p.places.end (and-right (p.places.text == base) (follow p.places.end placed) follows)
      ∙ ap (λ l. record { splicer = after_cuts splices (splices.step s c) (cuts_of bytes placed); written = l; window = waiting_from bytes (end_of p.places.end placed) })
      (append_assoc written part (concat (parts splices (splices.step s c) (cuts_of bytes placed))))

  -- tokens that follow one another lead where their cuts do
  pub led : (bytes : List ℕ) (s : S) (written : List ℕ) (base : ℕ) (placed : List Placed) → AllLie (length bytes) placed → follow base placed ≡ true
      → handed_on (splicing_step splices) (at_place bytes s written base) placed ≡ led_by splices bytes s written base placed
  unfolding follow end_of AllLie cuts_of handed_on after_cuts parts
  led bytes s written base [] lie follows = ap (λ l. record { splicer = s; written = l; window = waiting_from bytes base }) (sym (append-nil written))
  led bytes s written base (p ∷ placed) lie follows =
      step-one (is_error p.token) bytes s written base p placed lie.0 follows (λ t w k. led bytes t w k placed lie.1)
