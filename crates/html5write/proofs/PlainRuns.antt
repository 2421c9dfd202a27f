-- Runs of characters that are written as they are, and the first NUL of a text, by their bytes.
use Rattle.std.proofs.Common.{◌≡◌, ◌≢◌, ℕ, Bool, not, cond, eqb, ◌||◌, ◌+◌, ◌%◌, ◌^◌, ◌<◌, ◌≤◌, true, false, bit_or, w8, Fits, List, map, replicate, [], ◌∷◌, ◌++◌, length, take, drop, get_or, encode_utf8, encode_utf8_all, None, Some, All, refl, ap, sym, ◌∙◌, inl, inr, arith}
use Rattle.std.specs.Prelude.{◌==◌}
use Rattle.std.specs.List.{slice_index, prefix_len}
use Rattle.std.specs.Str.{IsUtf8, IsCharBoundary, chars}
use lib.Count.{count_trailing_zeros}
use lib.Lanes.{chunk, zip2, mask_l, top}
use Rattle.std.proofs.lemmas.Simd.{map-map, length-chunk, zip2_splat, zip2_of_maps, mask_l-mod, first_set_mask_l, run_in_chunk_le, run_in_chunk_fails, run_in_chunk_stops}
use Rattle.std.proofs.lemmas.Bool.{agree_below_at, cases_eq, cases_lt, ne_eqb, false_from_ne_true, true≢false}
use Rattle.std.proofs.lemmas.List.{append-nil, append_assoc, take_at, drop_at, take_all, take-append-drop, length-append, drop_all, at_drop_more, get_or-take, length-take-le, length-drop, length-map}
use Rattle.std.proofs.lemmas.List.Concat.{flat_map-append}
use Rattle.std.proofs.lemmas.List.Elements.{All-take, All-drop, All-get_or, All-from_get_or}
use Rattle.std.proofs.lemmas.Str.{chars-append, chars-nil, chars_past_char, encodes-append, encodes-chars, length-encode, len_utf8_bounds, IsCharBoundary-before_ascii, IsCharBoundary-end, IsCharBoundary-from_drop, IsUtf8-drop, IsUtf8-take}
use Rattle.markup5ever.specs.Blocks.{NoneWithin, IsFirstFrom}
use Rattle.html5reading.specs.Characters.{null}
use Rattle.html5write.specs.Escaped.{escaped, escaped_text}
use Rattle.html5write.specs.Refusals.{null_from}
use Rattle.html5write.specs.Runs.{is_stop, IsStop, NoStopWithin, IsNull, BeginsPlain, IsPlainText}
use Rattle.html5write.proofs.Characters.{each_character, escaped-plain}
use Rattle.html5write.proofs.Bytes.{bytes-escaped}
use Rattle.html5write.proofs.FirstCharacters.{null-here}

-- ---- bytes looked at one after another

NoStopWithin-more : (bytes : List ℕ) (from at : ℕ) → NoStopWithin bytes from at → is_stop (slice_index bytes at) ≡ false → NoStopWithin bytes from (at + 1)
NoStopWithin-more bytes from at none last k low high =
    elim (cases_eq k at) [
      | inl same ↦ rw same (λ stop. true≢false (sym stop ∙ last))
      | inr earlier ↦ none k low (omega (arith, high, earlier))
    ]

or_split : (a b : Bool) → a || b ≡ false → (a ≡ false) × (b ≡ false)
or_split true b e = absurd cc
or_split false b e = (refl, e)

-- one byte more, where what was found so far is kept
pub none_more : (bytes : List ℕ) (from at : ℕ) (found next : Bool) → (found ≡ false → NoStopWithin bytes from (from + at)) → next ≡ is_stop (slice_index bytes (from + at)) → found || next ≡ false
    → NoStopWithin bytes from (from + (at + 1))
none_more bytes from at found next before last none =
    let split = or_split found next none in
    let same : from + (at + 1) ≡ (from + at) + 1 = omega arith in
    rw same (NoStopWithin-more bytes from (from + at) (before split.0) (sym last ∙ split.1))

-- ---- a block of bytes looked at at once

-- as the code has it: the lanes that are set where a byte is a stop, and the place of the first, from their mask
abbrev equals : ℕ → ℕ → ℕ
equals a b = cond (eqb a b) 255 0

abbrev lane_of : ℕ → ℕ
lane_of x =
    bit_or (bit_or (bit_or (equals x 0) (equals x 0x0D)) (bit_or (equals x 0x22) (equals x 0x26)))
    (bit_or (bit_or (equals x 0x3C) (equals x 0x3E)) (equals x 0xEF))

abbrev each : List ℕ → ℕ → List ℕ
each v byte = zip2 equals v (replicate 16 byte)

abbrev pub lanes_of : List ℕ → List ℕ
lanes_of v =
    zip2 bit_or (zip2 bit_or (zip2 bit_or (each v 0) (each v 0x0D)) (zip2 bit_or (each v 0x22) (each v 0x26)))
    (zip2 bit_or (zip2 bit_or (each v 0x3C) (each v 0x3E)) (each v 0xEF))

lanes_are : (v : List ℕ) → length v ≡ 16 → lanes_of v ≡ map lane_of v
lanes_are v long =
    let is : ℕ → ℕ → ℕ = λ byte x. equals x byte in
    let splat : (byte : ℕ) → each v byte ≡ map (is byte) v = λ byte. zip2_splat equals v 16 byte long in
    let controls = zip2_of_maps bit_or (is 0) (is 0x0D) v (splat 0) (splat 0x0D) in
    let marks = zip2_of_maps bit_or (is 0x22) (is 0x26) v (splat 0x22) (splat 0x26) in
    let signs = zip2_of_maps bit_or (is 0x3C) (is 0x3E) v (splat 0x3C) (splat 0x3E) in
    let first = zip2_of_maps bit_or (λ x. bit_or (is 0 x) (is 0x0D x)) (λ x. bit_or (is 0x22 x) (is 0x26 x)) v controls marks in
    let second = zip2_of_maps bit_or (λ x. bit_or (is 0x3C x) (is 0x3E x)) (is 0xEF) v signs (splat 0xEF) in
    zip2_of_maps bit_or (λ x. bit_or (bit_or (is 0 x) (is 0x0D x)) (bit_or (is 0x22 x) (is 0x26 x))) (λ x. bit_or (bit_or (is 0x3C x) (is 0x3E x)) (is 0xEF x)) v first second

abbrev pub lowest : ℕ → ℕ
lowest mask = cond (eqb mask 0) 16 (count_trailing_zeros 64 mask)

abbrev pub stops : ℕ → Bool
stops x = top 7 (lane_of x)

stops_tells : (x : ℕ) → x < 256 → stops x ≡ is_stop x
unfolding is_stop
stops_tells x less = agree_below_at stops is_stop 256 x refl less

pub record StopsWithin (bytes : List ℕ) (at step : ℕ) : Type 0 where
  pub within : step ≤ 16
  pub none : NoStopWithin bytes at (at + step)
  pub stops : step < 16 → is_stop (slice_index bytes (at + step)) ≡ true

pub StopsWithin-lowest : (bytes : List ℕ) (at step : ℕ) → at + 16 ≤ length bytes → ((k : ℕ) → Fits w8 (get_or bytes k 0)) → step ≡ lowest (mask_l (map (top 7) (lanes_of (chunk at 16 bytes))) % 2 ^ 64) → StopsWithin bytes at step
StopsWithin-lowest bytes at step room fits found =
    let v = chunk at 16 bytes in
    let long = length-chunk at 16 bytes room in
    let mask : mask_l (map (top 7) (lanes_of v)) % 2 ^ 64 ≡ mask_l (map stops v) = ap (λ l. mask_l l % 2 ^ 64) (ap (map (top 7)) (lanes_are v long) ∙ map-map (top 7) lane_of v) ∙ mask_l-mod (map stops v) 64 (omega (arith, length-map v stops, long)) in
    let counted : step ≡ prefix_len (λ x. not (stops x)) v = found ∙ ap lowest mask ∙ first_set_mask_l stops v 16 long (omega arith) in
    record {
      within = run_in_chunk_le stops bytes at 16 step 0 room counted;
      none = λ k low less special. true≢false (sym special ∙ sym (stops_tells (get_or bytes k 0) (fits k).fits) ∙ run_in_chunk_fails stops bytes at 16 step 0 room counted k low less);
      stops = λ less. sym (stops_tells (get_or bytes (at + step) 0) (fits (at + step)).fits) ∙ run_in_chunk_stops stops bytes at 16 step 0 room counted less;
    }

-- ---- characters up to the first stop

-- no character goes on with a stop
is_stop-lead : (x : ℕ) → is_stop x ≡ true → 128 ≤ x → 192 ≤ x
unfolding is_stop
is_stop-lead x stop high =
    elim (cases_lt x 192) [
      | inl less ↦
          let none : (k : ℕ) → k < 128 → (x == k) ≡ false = λ k low. ne_eqb x k (λ e. omega (arith, e, low, high)) in
          let last : (x == 0xEF) ≡ false = ne_eqb x 0xEF (λ e. omega (arith, e, less)) in
          absurd (true≢false (sym stop ∙ rw (none 0 (omega arith), none 0x0D (omega arith), none 0x22 (omega arith), none 0x26 (omega arith), none 0x3C (omega arith), none 0x3E (omega arith), last) refl))
      | inr enough ↦ enough
    ]

boundary : (text : List ℕ) (len : ℕ) → IsFirstFrom IsStop text 0 len → IsCharBoundary text len
boundary text len first = (first.high, λ less high. is_stop-lead (slice_index text len) (first.stops less) high)

first-plain : (c : ℕ) → is_stop (get_or (encode_utf8 c) 0 0) ≡ false → escaped c ≡ c ∷ []
unfolding is_stop lib.Utf8.encode
first-plain =
    let P : ℕ → Type 0 = λ c. is_stop (get_or (encode_utf8 c) 0 0) ≡ false → escaped c ≡ c ∷ [] in
    each_character P (λ none. absurd (true≢false none)) (λ none. absurd (true≢false none)) (λ none. absurd (true≢false none)) (λ none. absurd (true≢false none)) (λ none. absurd (true≢false none)) (λ none. absurd (true≢false none))
    (λ c p none. escaped-plain c p)

-- where each byte of characters has a property, each byte of the first has it, and each of the others
module _ (P : ℕ → Type 0) (c : ℕ) (cs : List ℕ) where
  bytes-first : All P (encode_utf8_all (c ∷ cs)) → All P (encode_utf8 c)
  bytes-first all = rw (take_at (encode_utf8 c) (encode_utf8_all cs) (length (encode_utf8 c)) refl) at (All-take P (length (encode_utf8 c)) (encode_utf8 c ++ encode_utf8_all cs) all)

  bytes-others : All P (encode_utf8_all (c ∷ cs)) → All P (encode_utf8_all cs)
  bytes-others all = rw (drop_at (encode_utf8 c) (encode_utf8_all cs) (length (encode_utf8 c)) refl) at (All-drop P (length (encode_utf8 c)) (encode_utf8 c ++ encode_utf8_all cs) all)

abbrev NoStop : ℕ → Type 0
NoStop byte = ¬ IsStop byte

text-plain : (cs : List ℕ) → All NoStop (encode_utf8_all cs) → escaped_text cs ≡ cs
text-plain [] none = refl
text-plain (c ∷ cs) none =
    let long : 0 < length (encode_utf8 c) = omega (arith, length-encode c, (len_utf8_bounds c).0) in
    let first = false_from_ne_true _ (All-get_or NoStop (encode_utf8 c) 0 0 long (bytes-first NoStop c cs none)) in
    ap (λ l. l ++ escaped_text cs) (first-plain c first) ∙ ap (λ l. c ∷ l) (text-plain cs (bytes-others NoStop c cs none))

-- what holds of each byte before a place holds of all that are taken up to it
taken-all : (P : ℕ → Type 0) (text : List ℕ) (len : ℕ) → len ≤ length text → ((k : ℕ) → k < len → P (get_or text k 0)) → All P (take len text)
taken-all P text len high each =
    let size : length (take len text) ≡ len = length-take-le len text high in
    All-from_get_or P (take len text) 0 (λ k less. rw (get_or-take len text k 0 (omega (arith, less, size))) (each k (omega (arith, less, size))))

pub BeginsPlain-stops : (text : List ℕ) (len : ℕ) → IsUtf8 text → IsFirstFrom IsStop text 0 len → BeginsPlain text len
BeginsPlain-stops text len utf8 first =
    let at = boundary text len first in
    let none : All NoStop (take len text) = taken-all NoStop text len first.high (λ k less. first.none_before k (omega arith) less) in
    record {
      within = first.high;
      rest_utf8 = IsUtf8-drop text len utf8 at;
      plain = text-plain (chars (take len text)) (rw (encodes-chars (take len text) (IsUtf8-take text len utf8 at)) none);
    }

-- ---- the first NUL

is_stop-null : (x : ℕ) → IsNull x → is_stop x ≡ true
unfolding is_stop
is_stop-null x is = ap is_stop is

-- if none stood before a stop that is not one, none stands before the next stop
pub no_null-more : (bytes : List ℕ) (at next : ℕ) → NoneWithin IsNull bytes 0 at → slice_index bytes at ≢ 0 → IsFirstFrom IsStop bytes (at + 1) next → NoneWithin IsNull bytes 0 next
no_null-more bytes at next none other first k low high is =
    elim (cases_lt k at) [
      | inl less ↦ none k low less is
      | inr past ↦ elim (cases_eq k at) [
        | inl same ↦ other (rw same at is)
        | inr later ↦ first.none_before k (omega (arith, past, later)) high (is_stop-null _ is)
      ]
    ]

pub no_null-first : (bytes : List ℕ) (next : ℕ) → IsFirstFrom IsStop bytes 0 next → NoneWithin IsNull bytes 0 next
no_null-first bytes next first k low high is = first.none_before k low high (is_stop-null _ is)

abbrev Other : ℕ → Type 0
Other byte = ¬ IsNull byte

zero-first : get_or (encode_utf8 0) 0 0 ≡ 0
unfolding lib.Utf8.encode
zero-first = refl

null_from-past : (at : ℕ) (cs more : List ℕ) → All Other (encode_utf8_all cs) → null_from at (cs ++ more) ≡ null_from (at + length (encode_utf8_all cs)) more
unfolding null_from
null_from-past at [] more none = ap (λ n. null_from n more) (omega arith)
null_from-past at (c ∷ cs) more none =
    let width : ℕ = length (encode_utf8 c) in
    let long : 0 < width = omega (arith, length-encode c, (len_utf8_bounds c).0) in
    let other : c ≢ null = λ is. All-get_or Other (encode_utf8 c) 0 0 long (bytes-first Other c cs none) (ap (λ d. get_or (encode_utf8 d) 0 0) is ∙ zero-first) in
    let size : length (encode_utf8_all (c ∷ cs)) ≡ width + length (encode_utf8_all cs) = length-append (encode_utf8 c) (encode_utf8_all cs) in
    rw (ne_eqb c null other)
    (null_from-past (at + width) cs more (bytes-others Other c cs none) ∙ ap (λ n. null_from n more) (omega (arith, size)))

module _ (text : List ℕ) (at : ℕ) (utf8 : IsUtf8 text) (first : IsFirstFrom IsNull text 0 at) where
  -- the text before the first NUL has none
  from-there : IsCharBoundary text at → null_from 0 (chars text) ≡ null_from at (chars (drop at text))
  from-there cut =
      let front = IsUtf8-take text at utf8 cut in
      let whole : chars text ≡ chars (take at text) ++ chars (drop at text) = ap chars (sym (take-append-drop at text)) ∙ chars-append (take at text) (drop at text) front in
      let bytes = encodes-chars (take at text) front in
      let none : All Other (take at text) = taken-all Other text at first.high (λ k less. first.none_before k (omega arith) less) in
      ap (null_from 0) whole
      ∙ null_from-past 0 (chars (take at text)) (chars (drop at text)) (rw bytes none)
      ∙ ap (λ n. null_from n (chars (drop at text))) (omega (arith, ap length bytes ∙ length-take-le at text first.high))

  pub null-first : at < length text → null_from 0 (chars text) ≡ Some at
  unfolding lib.Utf8.encode
  null-first less =
      let cut = IsCharBoundary-before_ascii text at less (omega (arith, first.stops less)) in
      let here : drop at text ≡ encode_utf8 0 ++ drop (at + 1) text = at_drop_more (λ l. l) text at 0 less ∙ ap (λ b. b ∷ drop (at + 1) text) (first.stops less) in
      from-there cut ∙ null-here at (drop at text) (drop (at + 1) text) 0 (IsUtf8-drop text at utf8 cut) here refl

  pub null-nowhere : length text ≤ at → null_from 0 (chars text) ≡ None
  unfolding null_from
  null-nowhere past =
      let end : at ≡ length text = omega (arith, past, first.high) in
      let cut : IsCharBoundary text at = rw end (IsCharBoundary-end text) in
      from-there cut ∙ ap (null_from at) (ap chars (drop_all at text past) ∙ chars-nil)

-- ---- a text with no stop

pub plain-text : (text : List ℕ) (len : ℕ) → IsUtf8 text → IsFirstFrom IsStop text 0 len → len ≡ length text → IsPlainText text
plain-text text len utf8 first end =
    let none : IsFirstFrom IsNull text 0 len = record { low = first.low; high = first.high; none_before = no_null-first text len first; stops = λ less. absurd (omega (arith, less, end)) } in
    let whole : take len text ≡ text = take_all len text (omega (arith, end)) in
    let begins = BeginsPlain-stops text len utf8 first in
    record {
      no_null = null-nowhere text len utf8 none (omega (arith, end));
      plain = ap encode_utf8_all (rw whole at begins.plain) ∙ encodes-chars text utf8;
    }

-- ---- what is appended of a text

abbrev spelled : List ℕ → List ℕ
spelled bytes = encode_utf8_all (escaped_text (chars bytes))

-- a run that is written as it is, and the text after it
pub spelled-run : (text : List ℕ) (len : ℕ) → IsUtf8 text → BeginsPlain text len → encode_utf8_all (escaped_text (chars text)) ≡ take len text ++ encode_utf8_all (escaped_text (chars (drop len text)))
spelled-run text len utf8 begins =
    let front = IsUtf8-take text len utf8 (IsCharBoundary-from_drop text len begins.within begins.rest_utf8) in
    let whole : chars text ≡ chars (take len text) ++ chars (drop len text) = ap chars (sym (take-append-drop len text)) ∙ chars-append (take len text) (drop len text) front in
    ap (λ cs. encode_utf8_all (escaped_text cs)) whole
    ∙ ap encode_utf8_all (flat_map-append escaped (chars (take len text)) (chars (drop len text)) ∙ ap (λ l. l ++ escaped_text (chars (drop len text))) begins.plain)
    ∙ encodes-append (chars (take len text)) (escaped_text (chars (drop len text)))
    ∙ ap (λ l. l ++ spelled (drop len text)) (encodes-chars (take len text) front)

-- and then a character
pub spelled-step : (out ran more text rest : List ℕ) (len c : ℕ) → IsUtf8 text → BeginsPlain text len → ran ≡ out ++ take len text → more ≡ ran ++ encode_utf8_all (escaped c) → drop len text ≡ encode_utf8 c ++ rest
    → more ++ encode_utf8_all (escaped_text (chars rest)) ≡ out ++ encode_utf8_all (escaped_text (chars text))
spelled-step out ran more text rest len c utf8 begins run character first =
    let after : spelled (drop len text) ≡ encode_utf8_all (escaped c) ++ spelled rest =
    ap (λ cs. encode_utf8_all (escaped_text cs)) (chars_past_char (drop len text) rest c begins.rest_utf8 first) ∙ bytes-escaped c (chars rest) in
    ap (λ l. l ++ spelled rest) character
    ∙ append_assoc ran (encode_utf8_all (escaped c)) (spelled rest)
    ∙ ap (λ l. ran ++ l) (sym after)
    ∙ ap (λ l. l ++ spelled (drop len text)) run
    ∙ append_assoc out (take len text) (spelled (drop len text))
    ∙ ap (λ l. out ++ l) (sym (spelled-run text len utf8 begins))

-- or the end
pub spelled-end : (out ran text : List ℕ) (len : ℕ) → IsUtf8 text → BeginsPlain text len → ran ≡ out ++ take len text → drop len text ≡ [] → ran ≡ out ++ encode_utf8_all (escaped_text (chars text))
spelled-end out ran text len utf8 begins run none =
    let nothing : spelled (drop len text) ≡ [] = ap spelled none ∙ ap (λ cs. encode_utf8_all (escaped_text cs)) chars-nil in
    run ∙ ap (λ l. out ++ l) (sym (spelled-run text len utf8 begins ∙ ap (λ l. take len text ++ l) nothing ∙ append-nil (take len text)))

pub shorter : (text rest : List ℕ) (len c : ℕ) → drop len text ≡ encode_utf8 c ++ rest → length rest < length text
shorter text rest len c first = omega (arith, ap length first, length-append (encode_utf8 c) rest, length-drop len text, length-encode c, (len_utf8_bounds c).0)
