-- A page that is spliced piece by piece.
use Rattle.std.proofs.Common.{◌≡◌, ◌≤◌, ℕ, ◌+◌, Bool, true, false, List, [], ◌∷◌, ◌++◌, length, refl, ap, sym, ◌∙◌, subst, arith}
use Rattle.std.specs.Prelude.{◌==◌, ◌&&◌, drop, encode_utf8_all, if◌then◌else◌}
use Rattle.std.specs.List.{concat}
use Rattle.std.specs.Str.{chars}
use Rattle.std.proofs.lemmas.List.{append-nil, append_assoc, drop-append-le, length-append}
use Rattle.std.proofs.lemmas.List.Folds.{concat-append}
use Rattle.std.proofs.lemmas.Str.{encodes-append}
use Rattle.html5places.specs.Marks.{Placed}
use Rattle.html5places.specs.Placed.{at_first_byte, follow, handed_on, is_error, placed_at_end, placed_by, placed_tokens}
use Rattle.html5places.specs.Readers.{IsPart, Reading, Reads, ReadsEnd, StandsAfter, StopsAtEnd, StopsWithin, TextRead}
use Rattle.html5places.proofs.Following.{all-follow}
use Rattle.html5places.proofs.Pieces.{placed_by-append}
use Rattle.html5reading.specs.Start.{Rules, Start, nothing_open}
use Rattle.html5splice.specs.Cuts.{CutOf, cuts, cuts_of}
use Rattle.html5splice.specs.Edits.{Splices, after_cuts, parts, spliced}
use Rattle.html5splice.specs.Splicing.{Splicing, StandsSpliced, WritesBeginning, end_of, led_by, splicing_step, text_parts, waiting_from}
use Rattle.html5splice.proofs.Cutting.{AllLie, and-left, and-right, cuts-append, cuts-more, end-within, follow_by}
use Rattle.html5splice.proofs.Ends.{end-append}
use Rattle.html5splice.proofs.Lying.{tokens-lie}
use Rattle.html5splice.proofs.Steps.{led}

-- ---- parts of tokens

pub lie-first : (n : ℕ) (a b : List Placed) → AllLie n (a ++ b) → AllLie n a
unfolding AllLie
lie-first n [] b lie = tt
lie-first n (p ∷ a) b lie = (lie.0, lie-first n a b lie.1)

pub lie-second : (n : ℕ) (a b : List Placed) → AllLie n (a ++ b) → AllLie n b
unfolding AllLie
lie-second n [] b lie = lie
lie-second n (p ∷ a) b lie = lie-second n a b lie.1

first-one : (b : Bool) (from : ℕ) (p : Placed) (a c : List Placed) → follow_by b from p (a ++ c) ≡ true → ((k : ℕ) → follow k (a ++ c) ≡ true → follow k a ≡ true)
    → follow_by b from p a ≡ true
first-one true from p a c follows rest = rest from follows
first-one false from p a c follows rest =
    let at = and-left (p.places.text == from) (follow p.places.end (a ++ c)) follows in
    let after = and-right (p.places.text == from) (follow p.places.end (a ++ c)) follows in
    rw (at, rest p.places.end after) refl

pub follow-first : (from : ℕ) (a c : List Placed) → follow from (a ++ c) ≡ true → follow from a ≡ true
unfolding follow
follow-first from [] c follows = refl
follow-first from (p ∷ a) c follows = first-one (is_error p.token) from p a c follows (λ k. follow-first k a c)

second-one : (b : Bool) (from : ℕ) (p : Placed) (a c : List Placed) → follow_by b from p (a ++ c) ≡ true → ((k : ℕ) → follow k (a ++ c) ≡ true → follow (end_of k a) c ≡ true)
    → follow (end_of (if b then from else p.places.end) a) c ≡ true
second-one true from p a c follows rest = rest from follows
second-one false from p a c follows rest = rest p.places.end (and-right (p.places.text == from) (follow p.places.end (a ++ c)) follows)

pub follow-second : (from : ℕ) (a c : List Placed) → follow from (a ++ c) ≡ true → follow (end_of from a) c ≡ true
unfolding follow end_of
follow-second from [] c follows = follows
follow-second from (p ∷ a) c follows = second-one (is_error p.token) from p a c follows (λ k. follow-second k a c)

module _ {S : Type 0} (splices : Splices S) where
  -- ---- parts of pages

  after-append : (s : S) (a b : List CutOf) → after_cuts splices s (a ++ b) ≡ after_cuts splices (after_cuts splices s a) b
  unfolding after_cuts
  after-append s [] b = refl
  after-append s (c ∷ a) b = after-append (splices.step s c) a b

  pub parts-append : (s : S) (a b : List CutOf) → parts splices s (a ++ b) ≡ parts splices s a ++ parts splices (after_cuts splices s a) b
  unfolding after_cuts parts
  parts-append s [] b = refl
  parts-append s (c ∷ a) b = ap (λ l. spliced (splices.edits s c) c ∷ l) (parts-append (splices.step s c) a b)

  -- ---- more tokens, of more bytes

  led-append : (V : List ℕ) (s : S) (w : List ℕ) (P F : List Placed)
      → led_by splices V (after_cuts splices s (cuts_of V P)) (w ++ concat (parts splices s (cuts_of V P))) (end_of 0 P) F ≡ led_by splices V s w 0 (P ++ F)
  led-append V s w P F =
      let t : S = after_cuts splices s (cuts_of V P) in
      let first : List (List ℕ) = parts splices s (cuts_of V P) in
      let second : List (List ℕ) = parts splices t (cuts_of V F) in
      let cut : cuts_of V (P ++ F) ≡ cuts_of V P ++ cuts_of V F = cuts-append V P F in
      let all : parts splices s (cuts_of V (P ++ F)) ≡ first ++ second = ap (parts splices s) cut ∙ parts-append s (cuts_of V P) (cuts_of V F) in
      ap (λ x. record { splicer = x; written = (w ++ concat first) ++ concat second; window = waiting_from V (end_of (end_of 0 P) F) })
      (sym (ap (after_cuts splices s) cut ∙ after-append s (cuts_of V P) (cuts_of V F)))
      ∙ ap (λ l. record { splicer = after_cuts splices s (cuts_of V (P ++ F)); written = l; window = waiting_from V (end_of (end_of 0 P) F) })
      (append_assoc w (concat first) (concat second) ∙ ap (λ l. w ++ l) (sym (concat-append first second)) ∙ ap (λ l. w ++ concat l) (sym all))
      ∙ ap (λ n. record { splicer = after_cuts splices s (cuts_of V (P ++ F)); written = w ++ concat (parts splices s (cuts_of V (P ++ F))); window = waiting_from V n })
      (sym (end-append 0 P F))

  -- more bytes wait
  abbrev pub grown : Splicing S → List ℕ → Splicing S
  grown t more = record { splicer = t.splicer; written = t.written; window = record { bytes = t.window.bytes ++ more; base = t.window.base } }

  pub led-more : (W Z : List ℕ) (s : S) (w : List ℕ) (P F : List Placed) → AllLie (length W) P → AllLie (length (W ++ Z)) F → follow (end_of 0 P) F ≡ true
      → handed_on (splicing_step splices) (grown (led_by splices W s w 0 P) Z) F ≡ led_by splices (W ++ Z) s w 0 (P ++ F)
  led-more W Z s w P F lie lies follows =
      let e : ℕ = end_of 0 P in
      let within : e ≤ length W = end-within (length W) 0 P (omega arith) lie in
      let same : cuts_of W P ≡ cuts_of (W ++ Z) P = sym (cuts-more W Z P lie) in
      ap (λ c. handed_on (splicing_step splices)
      (record { splicer = after_cuts splices s c; written = w ++ concat (parts splices s c); window = record { bytes = drop e W ++ Z; base = e } }) F) same
      ∙ ap (λ l. handed_on (splicing_step splices)
      (record { splicer = after_cuts splices s (cuts_of (W ++ Z) P); written = w ++ concat (parts splices s (cuts_of (W ++ Z) P)); window = record { bytes = l; base = e } }) F)
      (sym (drop-append-le e W Z within))
      ∙ led splices (W ++ Z) (after_cuts splices s (cuts_of (W ++ Z) P)) (w ++ concat (parts splices s (cuts_of (W ++ Z) P))) e F lies follows
      ∙ led-append (W ++ Z) s w P F

  -- ---- a text, and more of it

  module _ (rules : Rules) (K : Start) (clean : nothing_open K.opened ≡ true) (s : S) (w : List ℕ) where
    abbrev tokens : List ℕ → List Placed
    tokens text = placed_by rules (at_first_byte K) [] text

    -- the tokens of a text are those of a part of it, then others
    pub stops-at : (text : List ℕ) (a b : List Placed) (after : List ℕ) → placed_tokens rules K text ≡ a ++ b
        → after ≡ w ++ concat (parts splices s (cuts_of (encode_utf8_all text) a)) → WritesBeginning splices rules K s w text after
    stops-at text a b after is wrote =
        let bytes : List ℕ = encode_utf8_all text in
        record {
          front = parts splices s (cuts_of bytes a);
          back = parts splices (after_cuts splices s (cuts_of bytes a)) (cuts_of bytes b);
          whole = ap (λ l. parts splices s (cuts_of bytes l)) is ∙ ap (parts splices s) (cuts-append bytes a b) ∙ parts-append s (cuts_of bytes a) (cuts_of bytes b);
          wrote = wrote;
        }

    module _ (before more : List ℕ) where
      abbrev both : List ℕ
      both = before ++ more

      abbrev next : List Placed
      next = placed_by rules (at_first_byte K) before more

      abbrev last : List Placed
      last = placed_at_end rules (at_first_byte K) both

      tokens-both : placed_tokens rules K both ≡ tokens before ++ (next ++ last)
      tokens-both = ap (λ l. l ++ last) (placed_by-append rules (at_first_byte K) [] before more) ∙ append_assoc (tokens before) next last

      bytes-both : encode_utf8_all both ≡ encode_utf8_all before ++ encode_utf8_all more
      bytes-both = encodes-append before more

      lie-before : AllLie (length (encode_utf8_all before)) (tokens before)
      lie-before = lie-first _ (tokens before) (placed_at_end rules (at_first_byte K) before) (tokens-lie rules K before clean)

      lie-later : AllLie (length (encode_utf8_all before ++ encode_utf8_all more)) (next ++ last)
      lie-later =
          lie-second _ (tokens before) (next ++ last)
          (subst (λ l. AllLie (length l) (tokens before ++ (next ++ last))) bytes-both
          (subst (AllLie (length (encode_utf8_all both))) tokens-both (tokens-lie rules K both clean)))

      follow-later : follow (end_of 0 (tokens before)) (next ++ last) ≡ true
      follow-later = follow-second 0 (tokens before) (next ++ last) (subst (λ l. follow 0 l ≡ true) tokens-both (all-follow rules K both))

      -- a prefix of the tokens to come leads on
      pub led-on : (a b : List Placed) → next ++ last ≡ a ++ b
          → handed_on (splicing_step splices) (grown (led_by splices (encode_utf8_all before) s w 0 (tokens before)) (encode_utf8_all more)) a
          ≡ led_by splices (encode_utf8_all both) s w 0 (tokens before ++ a)
      led-on a b is =
          led-more (encode_utf8_all before) (encode_utf8_all more) s w (tokens before) a lie-before
          (lie-first _ a b (subst (AllLie (length (encode_utf8_all before ++ encode_utf8_all more))) is lie-later))
          (follow-first (end_of 0 (tokens before)) a b (subst (λ l. follow (end_of 0 (tokens before)) l ≡ true) is follow-later))
          ∙ ap (λ l. led_by splices l s w 0 (tokens before ++ a)) (sym bytes-both)

      -- and where it stops there, a prefix of the text was written
      pub stops-on : (a b : List Placed) (after : List ℕ) → next ++ last ≡ a ++ b
          → after ≡ (handed_on (splicing_step splices) (grown (led_by splices (encode_utf8_all before) s w 0 (tokens before)) (encode_utf8_all more)) a).written
          → WritesBeginning splices rules K s w both after
      stops-on a b after is wrote =
          stops-at both (tokens before ++ a) b after
          (tokens-both ∙ ap (λ l. tokens before ++ l) is ∙ sym (append_assoc (tokens before) a b))
          (wrote ∙ ap (λ (u : Splicing S). u.written) (led-on a b is))

    -- ---- the end of a text

    module _ (text : List ℕ) where
      abbrev ending : List Placed
      ending = placed_at_end rules (at_first_byte K) text

      -- a prefix of the tokens that the end tells leads on
      pub led-end : (a b : List Placed) → ending ≡ a ++ b
          → handed_on (splicing_step splices) (led_by splices (encode_utf8_all text) s w 0 (tokens text)) a
          ≡ led_by splices (encode_utf8_all text) s w 0 (tokens text ++ a)
      led-end a b is =
          let bytes : List ℕ = encode_utf8_all text in
          led splices bytes (after_cuts splices s (cuts_of bytes (tokens text))) (w ++ concat (parts splices s (cuts_of bytes (tokens text)))) (end_of 0 (tokens text)) a
          (lie-first _ a b (subst (AllLie (length bytes)) is (lie-second _ (tokens text) ending (tokens-lie rules K text clean))))
          (follow-first (end_of 0 (tokens text)) a b (subst (λ l. follow (end_of 0 (tokens text)) l ≡ true) is (follow-second 0 (tokens text) ending (all-follow rules K text))))
          ∙ led-append bytes s w (tokens text) a
