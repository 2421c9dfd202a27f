-- A text in quotes, printed by runs of bytes that stand as they are.
use Rattle.std.proofs.Common.{◌≡◌, ℕ, zero, suc, Bool, not, cond, eqb, ltb, ◌||◌, ◌+◌, ◌-◌, ◌%◌, ◌^◌, ◌<◌, ◌≤◌, true, false, bit_or, w8, Fits, List, map, replicate, [], ◌∷◌, ◌++◌, length, take, drop, get_or, refl, ap, sym, ◌∙◌, inl, inr, arith}
use Rattle.std.specs.List.{slice_index, prefix_len}
use lib.Count.{count_trailing_zeros}
use lib.Lanes.{chunk, zip2, mask_l, top}
use Rattle.std.proofs.lemmas.Simd.{map-map, length-chunk, zip2_splat, zip2_of_maps, mask_l-mod, first_set_mask_l, run_in_chunk_le, run_in_chunk_fails, run_in_chunk_stops}
use Rattle.std.proofs.lemmas.Bool.{agree_below_at, cases_eq, false_from_ne_true, true≢false}
use Rattle.std.proofs.lemmas.List.{append-nil, append_assoc, take_more, drop-append-le, drop-take, length-take-le, drop_all, length-map}
use Rattle.token_printer.specs.OutputLaws.{quoted_bytes-append}
use Rattle.token_printer.specs.Printed.{needs_escape, IsPlainWithin, escape, quoted_byte, quoted_bytes}

quoted_bytes-more : (text : List ℕ) (i : ℕ) → i < length text
    → quoted_bytes (take (i + 1) text) ≡ quoted_bytes (take i text) ++ quoted_byte (get_or text i 0)
unfolding quoted_bytes
quoted_bytes-more text i h =
    ap quoted_bytes (take_more text i 0 h)
    ∙ quoted_bytes-append (take i text) (get_or text i 0 ∷ [])
    ∙ ap (λ l. quoted_bytes (take i text) ++ l) (append-nil (quoted_byte (get_or text i 0)))

-- an output that has the bytes before an index, and then one more
pub quoted_bytes-next : (old output next text : List ℕ) (i : ℕ) → output ≡ old ++ quoted_bytes (take i text) → i < length text
    → next ≡ output ++ quoted_byte (get_or text i 0) → next ≡ old ++ quoted_bytes (take (i + 1) text)
quoted_bytes-next old output next text i before within printed =
    printed
    ∙ ap (λ l. l ++ quoted_byte (get_or text i 0)) before
    ∙ append_assoc old (quoted_bytes (take i text)) (quoted_byte (get_or text i 0))
    ∙ ap (λ l. old ++ l) (sym (quoted_bytes-more text i within))

pub quoted_bytes-none : (old : List ℕ) → old ≡ old ++ quoted_bytes []
unfolding quoted_bytes
quoted_bytes-none old = sym (append-nil old)

-- the bytes from one place up to another
abbrev run : List ℕ → ℕ → ℕ → List ℕ
run text start end = drop start (take end text)

run-none : (text : List ℕ) (start : ℕ) → start ≤ length text → run text start start ≡ []
run-none text start high = drop_all start (take start text) (omega (arith, length-take-le start text high))

run-more : (text : List ℕ) (start end : ℕ) → start ≤ end → end < length text
    → run text start (end + 1) ≡ run text start end ++ get_or text end 0 ∷ []
run-more text start end low high =
    ap (λ l. drop start l) (take_more text end 0 high)
    ∙ drop-append-le start (take end text) (get_or text end 0 ∷ []) (omega (arith, length-take-le end text))

run-slice : (text : List ℕ) (start end : ℕ) → start ≤ end → take (end - start) (drop start text) ≡ run text start end
run-slice text start end low =
    let ends : start + (end - start) ≡ end = omega arith in
    sym (drop-take start (end - start) text) ∙ ap (λ e. drop start (take e text)) ends

quoted_byte-plain : (byte : ℕ) → needs_escape byte ≡ false → quoted_byte byte ≡ byte ∷ []
unfolding quoted_byte
quoted_byte-plain byte plain = rw plain refl

quoted_byte-escape : (byte : ℕ) → needs_escape byte ≡ true → escape byte ≡ quoted_byte byte
unfolding quoted_byte
quoted_byte-escape byte special = rw special refl

-- bytes that stand as they are
quoted_bytes-plain : (text : List ℕ) (start count : ℕ) → start + count ≤ length text → IsPlainWithin text start (start + count)
    → quoted_bytes (take (start + count) text) ≡ quoted_bytes (take start text) ++ run text start (start + count)
quoted_bytes-plain text start zero high plain =
    let same : start + zero ≡ start = omega arith in
    rw same
    (sym (append-nil (quoted_bytes (take start text)))
    ∙ ap (λ l. quoted_bytes (take start text) ++ l) (sym (run-none text start (omega (arith, high)))))
quoted_bytes-plain text start (suc count) high plain =
    let end : ℕ = start + count in
    let byte : ℕ = get_or text end 0 in
    let within : end < length text = omega (arith, high) in
    let same : start + suc count ≡ end + 1 = omega arith in
    rw same
    (quoted_bytes-more text end within
    ∙ ap (λ l. quoted_bytes (take end text) ++ l) (quoted_byte-plain byte (false_from_ne_true _ (plain end (omega arith) (omega arith))))
    ∙ ap (λ l. l ++ byte ∷ []) (quoted_bytes-plain text start count (omega (arith, high)) (λ k low less. plain k low (omega (arith, less))))
    ∙ append_assoc (quoted_bytes (take start text)) (run text start end) (byte ∷ [])
    ∙ ap (λ l. quoted_bytes (take start text) ++ l) (sym (run-more text start end (omega arith) within)))

-- an output that has the bytes before an index, and then a run of those
pub quoted_bytes-run : (old output next text : List ℕ) (start end : ℕ) → output ≡ old ++ quoted_bytes (take start text)
    → start ≤ end → end ≤ length text → IsPlainWithin text start end
    → next ≡ output ++ take (end - start) (drop start text) → next ≡ old ++ quoted_bytes (take end text)
quoted_bytes-run old output next text start end before low high plain printed =
    let same : start + (end - start) ≡ end = omega (arith, low) in
    let whole : quoted_bytes (take end text) ≡ quoted_bytes (take start text) ++ run text start end =
    rw same at (quoted_bytes-plain text start (end - start) (omega (arith, same, high)) (λ k low less. plain k low (omega (arith, less, same)))) in
    printed
    ∙ ap (λ l. output ++ l) (run-slice text start end low)
    ∙ ap (λ l. l ++ run text start end) before
    ∙ append_assoc old (quoted_bytes (take start text)) (run text start end)
    ∙ ap (λ l. old ++ l) (sym whole)

-- and then the escape of another byte
pub quoted_bytes-escape : (old output next text : List ℕ) (i : ℕ) → output ≡ old ++ quoted_bytes (take i text) → i < length text
    → needs_escape (get_or text i 0) ≡ true → next ≡ output ++ escape (get_or text i 0) → next ≡ old ++ quoted_bytes (take (i + 1) text)
quoted_bytes-escape old output next text i before within special printed =
    quoted_bytes-next old output next text i before within
    (printed ∙ ap (λ l. output ++ l) (quoted_byte-escape (get_or text i 0) special))

-- ---- bytes looked at one after another

IsPlainWithin-more : (bytes : List ℕ) (from at : ℕ) → IsPlainWithin bytes from at → needs_escape (slice_index bytes at) ≡ false → IsPlainWithin bytes from (at + 1)
IsPlainWithin-more bytes from at plain last k low high =
    elim (cases_eq k at) [
      | inl same ↦ rw same (λ special. true≢false (sym special ∙ last))
      | inr earlier ↦ plain k low (omega (arith, high, earlier))
    ]

or_split : (a b : Bool) → a || b ≡ false → (a ≡ false) × (b ≡ false)
or_split true b e = absurd cc
or_split false b e = (refl, e)

-- one byte more, where what was found so far is kept
pub none_more : (bytes : List ℕ) (from at : ℕ) (found next : Bool) → (found ≡ false → IsPlainWithin bytes from (from + at)) → next ≡ needs_escape (slice_index bytes (from + at)) → found || next ≡ false → IsPlainWithin bytes from (from + (at + 1))
none_more bytes from at found next before last none =
    let split = or_split found next none in
    let same : from + (at + 1) ≡ (from + at) + 1 = omega arith in
    rw same (IsPlainWithin-more bytes from (from + at) (before split.0) (sym last ∙ split.1))

-- ---- a block of bytes looked at at once

-- as the code has it: the lanes that are set where a byte needs an escape, and the place of the first, from their mask
abbrev below : ℕ → ℕ → ℕ
below a b = cond (ltb a b) 255 0

abbrev equals : ℕ → ℕ → ℕ
equals a b = cond (eqb a b) 255 0

abbrev lane_of : ℕ → ℕ
lane_of x = bit_or (bit_or (below x 0x20) (equals x 0x7F)) (bit_or (equals x 0x22) (equals x 0x5C))

abbrev each : (ℕ → ℕ → ℕ) → List ℕ → ℕ → List ℕ
each test v byte = zip2 test v (replicate 16 byte)

abbrev pub lanes_of : List ℕ → List ℕ
lanes_of v = zip2 bit_or (zip2 bit_or (each below v 0x20) (each equals v 0x7F)) (zip2 bit_or (each equals v 0x22) (each equals v 0x5C))

lanes_are : (v : List ℕ) → length v ≡ 16 → lanes_of v ≡ map lane_of v
lanes_are v long =
    let splat : (byte : ℕ) → each equals v byte ≡ map (λ x. equals x byte) v = λ byte. zip2_splat equals v 16 byte long in
    let controls = zip2_of_maps bit_or (λ x. below x 0x20) (λ x. equals x 0x7F) v (zip2_splat below v 16 0x20 long) (splat 0x7F) in
    let marks = zip2_of_maps bit_or (λ x. equals x 0x22) (λ x. equals x 0x5C) v (splat 0x22) (splat 0x5C) in
    zip2_of_maps bit_or (λ x. bit_or (below x 0x20) (equals x 0x7F)) (λ x. bit_or (equals x 0x22) (equals x 0x5C)) v controls marks

abbrev pub lowest : ℕ → ℕ
lowest mask = cond (eqb mask 0) 16 (count_trailing_zeros 64 mask)

abbrev stops : ℕ → Bool
stops x = top 7 (lane_of x)

stops_tells : (x : ℕ) → x < 256 → stops x ≡ needs_escape x
unfolding needs_escape
stops_tells x less = agree_below_at stops needs_escape 256 x refl less

pub record StopsWithin (bytes : List ℕ) (at step : ℕ) : Type 0 where
  pub within : step ≤ 16
  pub plain : IsPlainWithin bytes at (at + step)
  pub stops : step < 16 → needs_escape (slice_index bytes (at + step)) ≡ true

pub StopsWithin-lowest : (bytes : List ℕ) (at step : ℕ) → at + 16 ≤ length bytes → ((k : ℕ) → Fits w8 (get_or bytes k 0)) → step ≡ lowest (mask_l (map (top 7) (lanes_of (chunk at 16 bytes))) % 2 ^ 64) → StopsWithin bytes at step
StopsWithin-lowest bytes at step room fits found =
    let v = chunk at 16 bytes in
    let long = length-chunk at 16 bytes room in
    let mask : mask_l (map (top 7) (lanes_of v)) % 2 ^ 64 ≡ mask_l (map stops v) = ap (λ l. mask_l l % 2 ^ 64) (ap (map (top 7)) (lanes_are v long) ∙ map-map (top 7) lane_of v) ∙ mask_l-mod (map stops v) 64 (omega (arith, length-map v stops, long)) in
    let counted : step ≡ prefix_len (λ x. not (stops x)) v = found ∙ ap lowest mask ∙ first_set_mask_l stops v 16 long (omega arith) in
    record {
      within = run_in_chunk_le stops bytes at 16 step 0 room counted;
      plain = λ k low less special. true≢false (sym special ∙ sym (stops_tells (get_or bytes k 0) (fits k).fits) ∙ run_in_chunk_fails stops bytes at 16 step 0 room counted k low less);
      stops = λ less. sym (stops_tells (get_or bytes (at + step) 0) (fits (at + step)).fits) ∙ run_in_chunk_stops stops bytes at 16 step 0 room counted less;
    }
