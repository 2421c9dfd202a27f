-- What `from_utf8` says of bytes, as a text and what is cut after it.
use Rattle.std.proofs.Common.{◌≡◌, ℕ, ◌+◌, ◌-◌, ◌<◌, ◌≤◌, List, [], ◌∷◌, ◌++◌, length, take, drop, None, Some, Ok, Err, refl, inl, inr, append-nil, take-add, sym, ◌∙◌, ap, subst, arith, append_assoc, take-append-drop, length-append, length-drop, length-take, true}
use borrow.Rule.Slice.PartMut.{put_mid}
use lib.Utf8.{scalars}
use Rattle.std.specs.Prelude.{min, IsUtf8, encode_utf8_all, Result, String, string_bytes}
use Rattle.std.specs.Char.{encode_utf8}
use Rattle.std.specs.Str.{IsValidUpTo, StartsWithNoChar}
use Rattle.std.specs.Str.Lossy.{utf8_error_len}
use Rattle.std.proofs.lemmas.List.{take_all, take_at, take-take, drop_at, drop_all, take-append-le, drop-append-le, length-take-le}
use Rattle.std.proofs.lemmas.Bool.{and_parts, cases_lt}
use Rattle.std.proofs.lemmas.Slice.{take-put_mid}
use Rattle.std.proofs.lemmas.Str.{IsUtf8-append, IsUtf8-nil, IsUtf8-drop, IsUtf8-encode, IsCharBoundary-from_take, length-encode, len_utf8_bounds}
use Rattle.utf8_pieces.specs.Pieces.{Decoding, Decodes, EndsAtFault, IsCutCharacter, IsNeverUtf8, IsTextThenCut, place_after}
use Rattle.utf8_pieces.specs.declared.error.DecodeError.{DecodeError}
use Rattle.utf8_pieces.specs.declared.error.DecodeError.TheVariants.{NotUtf8, Memory}
use Rattle.utf8_pieces.proofs.Cuts.{IsCutCharacter-no_fault, no_fault-text, text_past_cut}

-- nothing is cut after a whole text
pub IsCutCharacter-nil : IsCutCharacter []
IsCutCharacter-nil = record { character = 0; rest = encode_utf8 0; scalar = refl; some = omega (arith, length-encode 0, len_utf8_bounds 0); whole = refl }

pub IsTextThenCut-whole : (bytes : List ℕ) → IsUtf8 bytes → IsTextThenCut bytes (length bytes)
IsTextThenCut-whole bytes text =
    record {
      within = omega arith;
      text = subst IsUtf8 (sym (take_all (length bytes) bytes (omega arith))) text;
      cut = subst IsCutCharacter (sym (drop_all (length bytes) bytes (omega arith))) IsCutCharacter-nil;
    }

-- no character stands after the longest text
no_char_after : (bytes : List ℕ) (n : ℕ) → IsValidUpTo bytes n → StartsWithNoChar (drop n bytes)
no_char_after bytes n valid c rest scalar is =
    let size = len_utf8_bounds c in
    let within = valid.short in
    let split : bytes ≡ (take n bytes ++ encode_utf8 c) ++ rest =
    sym (take-append-drop n bytes) ∙ ap (λ t. take n bytes ++ t) is ∙ sym (append_assoc (take n bytes) (encode_utf8 c) rest) in
    let longer = take n bytes ++ encode_utf8 c in
    let front : take (length longer) bytes ≡ longer = ap (take (length longer)) split ∙ take_at longer rest (length longer) refl in
    valid.longest (length longer) (omega (arith, length-append (take n bytes) (encode_utf8 c), length-encode c, length-take-le n bytes (omega arith)))
    (subst IsUtf8 (sym front) (IsUtf8-append _ _ valid.front (IsUtf8-encode c scalar)))

pub IsTextThenCut-valid : (bytes : List ℕ) (n : ℕ) → IsValidUpTo bytes n → utf8_error_len (drop n bytes) ≡ None → IsTextThenCut bytes n
IsTextThenCut-valid bytes n valid open_end =
    let short = valid.short in
    record {
      within = omega arith;
      text = valid.front;
      cut = IsCutCharacter-no_fault (drop n bytes) (omega (arith, length-drop n bytes)) (no_char_after bytes n valid) open_end;
    }

pub IsNeverUtf8-valid : (bytes : List ℕ) (n k : ℕ) → IsValidUpTo bytes n → utf8_error_len (drop n bytes) ≡ Some k → IsNeverUtf8 bytes
IsNeverUtf8-valid bytes n k valid fault later text =
    let short = valid.short in
    let seam = IsCharBoundary-from_take (bytes ++ later) n text (omega (arith, length-append bytes later)) (rw (take-append-le n bytes later (omega arith)) valid.front) in
    let back : IsUtf8 (drop n bytes ++ later) = rw (← drop-append-le n bytes later (omega arith)) (IsUtf8-drop (bytes ++ later) n text seam) in
    let none = no_fault-text (drop n bytes) later back.0 (omega (arith, length-drop n bytes)) back.1.0 back.1.1 (no_char_after bytes n valid) in
    absurd (cc (none, fault))

-- ---- the first four bytes of two lists

pub take_past : (xs ys : List ℕ) (n m : ℕ) → n ≡ length xs + m → take n (xs ++ ys) ≡ xs ++ take m ys
take_past xs ys n m is =
    ap (λ k. take k (xs ++ ys)) is ∙ take-add (length xs) m (xs ++ ys)
    ∙ ap (λ t. t ++ take m (drop (length xs) (xs ++ ys))) (take_at xs ys (length xs) refl) ∙ ap (λ t. xs ++ take m t) (drop_at xs ys (length xs) refl)

-- the held bytes and the bytes after them, up to four, are the first four of both
pub joined_is : (held bytes h ys zeros : List ℕ) (len k : ℕ) → h ≡ held → ys ≡ take (len - length held) bytes → length held ≤ 3
    → len ≡ min 4 (length held + length bytes) → take len (put_mid (length held) k (h ++ zeros) ys) ≡ take 4 (held ++ bytes)
joined_is held bytes h ys zeros len k h_is ys_is short len_is =
    let m = len - length held in
    let size : length ys ≡ m = ap length ys_is ∙ length-take-le m bytes (omega arith) in
    let front : take (length held) (h ++ zeros) ≡ held = ap (λ t. take (length held) (t ++ zeros)) h_is ∙ take_at held zeros (length held) refl in
    let fits : length held ≤ length (h ++ zeros) = omega (arith, length-append h zeros, ap length h_is) in
    let both : take len (held ++ bytes) ≡ held ++ take m bytes = take_past held bytes len m (omega arith) in
    take-put_mid (length held) k (h ++ zeros) ys len (omega arith) fits
    ∙ ap (λ t. t ++ ys) front ∙ ap (λ t. held ++ t) ys_is ∙ sym both
    ∙ elim (cases_lt len 4) [
      | inl less ↦ take_all len (held ++ bytes) (omega (arith, length-append held bytes)) ∙ sym (take_all 4 (held ++ bytes) (omega (arith, length-append held bytes)))
      | inr full ↦ ap (λ n. take n (held ++ bytes)) (let four : len ≡ 4 = omega arith in four)
    ]

-- a text of the first bytes, and the bytes after it
pub text_and_rest : (held bytes front : List ℕ) (len n : ℕ) → take len front ≡ take 4 (held ++ bytes) → n ≤ len → n ≤ 4 → length held ≤ n
    → take n front ++ drop (n - length held) bytes ≡ held ++ bytes
text_and_rest held bytes front len n is within four past =
    let all = held ++ bytes in
    let m = n - length held in
    let taken : take n front ≡ take n all = sym (take-take n len front within) ∙ ap (take n) is ∙ take-take n 4 all four in
    let split : take n all ≡ held ++ take m bytes = take_past held bytes n m (omega arith) in
    ap (λ t. t ++ drop m bytes) (taken ∙ split) ∙ append_assoc held (take m bytes) (drop m bytes) ∙ ap (λ t. held ++ t) (take-append-drop m bytes)

pub past_held : (held bytes front : List ℕ) (len first : ℕ) → IsCutCharacter held → take len front ≡ take 4 (held ++ bytes)
    → first ≤ length (take len front) → IsUtf8 (take first (take len front)) → 0 < first → length held ≤ first
past_held held bytes front len first cut is within text some =
    let four : first ≤ 4 = omega (arith, ap length is, length-take 4 (held ++ bytes)) in
    text_past_cut held bytes first cut some (subst IsUtf8 (ap (take first) is ∙ take-take first 4 (held ++ bytes) four) text)

pub all_of_front : (held now bytes front f b : List ℕ) (len first : ℕ) → held ≡ now → f ≡ take first front → b ≡ drop (first - length held) bytes
    → take len front ≡ take 4 (held ++ bytes) → first ≤ length (take len front) → length held ≤ first → f ++ b ≡ now ++ bytes
all_of_front held now bytes front f b len first now_is f_is b_is is within past =
    let inside : first ≤ len = omega (arith, length-take len front) in
    let four : first ≤ 4 = omega (arith, ap length is, length-take 4 (held ++ bytes)) in
    (λ i. f_is i ++ b_is i) ∙ text_and_rest held bytes front len first is inside four past ∙ ap (λ t. t ++ bytes) now_is

pub all_of_short : (held now bytes front : List ℕ) (len : ℕ) → held ≡ now → take len front ≡ take 4 (held ++ bytes)
    → len ≡ min 4 (length held + length bytes) → len < 4 → take len front ≡ now ++ bytes
all_of_short held now bytes front len now_is is len_is short =
    is ∙ take_all 4 (held ++ bytes) (omega (arith, length-append held bytes)) ∙ ap (λ t. t ++ bytes) now_is

pub none_of_full : (held now bytes front : List ℕ) (len first : ℕ) → held ≡ now → take len front ≡ take 4 (held ++ bytes)
    → len ≡ min 4 (length held + length bytes) → 4 ≤ len → first ≤ 0 → (first < length (take len front) → IsValidUpTo (take len front) first)
    → (4 ≤ length (now ++ bytes)) × IsValidUpTo (take 4 (now ++ bytes)) 0
none_of_full held now bytes front len first now_is is len_is full none longest =
    let all = ap (λ t. t ++ bytes) now_is in
    let long : 4 ≤ length (held ++ bytes) = omega (arith, length-append held bytes) in
    let zero_is : first ≡ 0 = omega arith in
    let some : first < length (take len front) = omega (arith, ap length is, length-take 4 (held ++ bytes)) in
    let valid : IsValidUpTo (take 4 (held ++ bytes)) 0 = subst (λ n. IsValidUpTo (take 4 (held ++ bytes)) n) zero_is (subst (λ t. IsValidUpTo t first) is (longest some)) in
    (omega (arith, ap length all), subst (λ t. IsValidUpTo (take 4 t) 0) all valid)

-- ---- no character within four bytes

-- four bytes that no text begins are begun by no character, whatever follows
no_char_of_four : (all : List ℕ) → 4 ≤ length all → IsValidUpTo (take 4 all) 0 → (later : List ℕ) → StartsWithNoChar (all ++ later)
no_char_of_four all long valid later c rest scalar is =
    let char = encode_utf8 c in
    let size = len_utf8_bounds c in
    let n = length char in
    let four : n ≤ 4 = omega (arith, length-encode c) in
    let front : take n (take 4 all) ≡ char =
    take-take n 4 all four ∙ sym (take-append-le n all later (omega arith)) ∙ ap (take n) is ∙ take_at char rest n refl in
    valid.longest n (omega (arith, length-encode c)) (subst IsUtf8 (sym front) (IsUtf8-encode c scalar))

no_text_by : (bytes cs : List ℕ) → StartsWithNoChar bytes → 0 < length bytes → scalars cs ≡ true → encode_utf8_all cs ≡ bytes → ⊥
no_text_by bytes [] none some scalar is = omega (arith, ap length is)
no_text_by bytes (c ∷ cs) none some scalar is = none c (encode_utf8_all cs) (and_parts _ _ scalar).0 (sym is)

pub IsNeverUtf8-four : (all : List ℕ) → 4 ≤ length all → IsValidUpTo (take 4 all) 0 → IsNeverUtf8 all
IsNeverUtf8-four all long valid later text =
    no_text_by (all ++ later) text.0 (no_char_of_four all long valid later) (omega (arith, length-append all later)) text.1.0 text.1.1

-- a fault in the first four bytes is one of all bytes
pub IsValidUpTo-four : (all : List ℕ) → 4 ≤ length all → IsValidUpTo (take 4 all) 0 → IsValidUpTo all 0
IsValidUpTo-four all long valid =
    record {
      short = omega arith;
      front = IsUtf8-nil;
      longest = λ m some text.
          no_text_by (take m all) text.0
          (λ c rest scalar is. no_char_of_four all long valid [] c (rest ++ drop m all) scalar
          (append-nil all ∙ sym (take-append-drop m all) ∙ ap (λ t. t ++ drop m all) is ∙ append_assoc (encode_utf8 c) rest (drop m all)))
          (omega (arith, length-take m all)) text.1.0 text.1.1;
    }

-- ---- a text in front

IsUtf8-after : (first bytes : List ℕ) → IsUtf8 first → IsUtf8 (first ++ bytes) → IsUtf8 bytes
IsUtf8-after first bytes text whole =
    let n = length first in
    let seam = IsCharBoundary-from_take (first ++ bytes) n whole (omega (arith, length-append first bytes)) (rw (take_at first bytes n refl) text) in
    rw (drop_at first bytes n refl) at (IsUtf8-drop (first ++ bytes) n whole seam)

pub IsNeverUtf8-after : (first bytes : List ℕ) → IsUtf8 first → IsNeverUtf8 bytes → IsNeverUtf8 (first ++ bytes)
IsNeverUtf8-after first bytes text never later whole =
    never later (IsUtf8-after first (bytes ++ later) text (rw append_assoc at whole))

pub IsValidUpTo-after : (first bytes : List ℕ) (n : ℕ) → IsUtf8 first → IsValidUpTo bytes n → IsValidUpTo (first ++ bytes) (length first + n)
IsValidUpTo-after first bytes n text valid =
    let short = valid.short in
    record {
      short = omega (arith, length-append first bytes);
      front = rw (take_past first bytes (length first + n) n refl) (IsUtf8-append _ _ text valid.front);
      longest = λ m more whole.
          let k = m - length first in
          valid.longest k (omega arith) (IsUtf8-after first (take k bytes) text (rw (take_past first bytes m k (omega arith)) at whole));
    }

-- bytes that are a text and a cut character may go on to be UTF-8
pub not_never : (first bytes : List ℕ) (n : ℕ) → IsUtf8 first → IsTextThenCut bytes n → ¬ (IsNeverUtf8 (first ++ bytes))
not_never first bytes n text parts never =
    let cut = parts.cut in
    let char = IsUtf8-encode cut.character cut.scalar in
    let split : (first ++ take n bytes) ++ encode_utf8 cut.character ≡ (first ++ bytes) ++ cut.rest =
    append_assoc first (take n bytes) (encode_utf8 cut.character) ∙ ap (λ t. first ++ (take n bytes ++ t)) cut.whole
    ∙ ap (λ t. first ++ t) (sym (append_assoc (take n bytes) (drop n bytes) cut.rest) ∙ ap (λ t. t ++ cut.rest) (take-append-drop n bytes))
    ∙ sym (append_assoc first bytes cut.rest) in
    never cut.rest (subst IsUtf8 split (IsUtf8-append _ _ (IsUtf8-append _ _ text parts.text) char))

-- ---- the front of bytes that are refused

-- a text at the front of bytes that are never UTF-8 is not all of them
fewer_of_never : (first bytes : List ℕ) (n : ℕ) → IsUtf8 first → IsNeverUtf8 (first ++ bytes) → IsUtf8 (take n bytes) → n < length bytes
fewer_of_never first bytes n utf8 never part =
    elim (cases_lt n (length bytes)) [
      | inl fewer ↦ fewer
      | inr all ↦ absurd (never [] (subst IsUtf8 (ap (λ t. first ++ t) (take_all n bytes all) ∙ sym (append-nil (first ++ bytes))) (IsUtf8-append _ _ utf8 part)))
    ]

pub EndsAtFault-after : (old new : Decoding) (first bytes text : List ℕ) (n : ℕ) → IsUtf8 first → IsNeverUtf8 (first ++ bytes) → IsUtf8 (take n bytes)
    → (n < length bytes → IsValidUpTo bytes n) → text ≡ first ++ take n bytes → new.held ≡ [] → new.taken ≡ place_after old.taken (length first + n)
    → EndsAtFault old new (first ++ bytes) text
EndsAtFault-after old new first bytes text n utf8 never part longest is held taken = record {
  valid_len = length first + n;
  valid = IsValidUpTo-after first bytes n utf8 (longest (fewer_of_never first bytes n utf8 never part));
  front = is ∙ sym (take_past first bytes (length first + n) n refl);
  held = held;
  taken = taken;
}

-- if the first four bytes of the held ones and a piece begin no text, and the bytes are never UTF-8, no front of them is text
pub none_valid : (held now bytes front : List ℕ) (len first : ℕ) → held ≡ now → take len front ≡ take 4 (held ++ bytes)
    → len ≡ min 4 (length held + length bytes) → first ≤ 0 → IsNeverUtf8 (now ++ bytes)
    → (first < length (take len front) → IsValidUpTo (take len front) first) → IsValidUpTo (now ++ bytes) 0
none_valid held now bytes front len first now_is is len_is none never longest =
    elim (cases_lt len 4) [
      | inl short ↦ (let all = all_of_short held now bytes front len now_is is len_is short in
          let some = fewer_of_never [] (now ++ bytes) 0 IsUtf8-nil never IsUtf8-nil in
          let zero_is : first ≡ 0 = omega arith in
          subst (λ n. IsValidUpTo (now ++ bytes) n) zero_is (subst (λ t. IsValidUpTo t first) all (longest (omega (arith, ap length all, some)))))
      | inr full ↦ (let four = none_of_full held now bytes front len first now_is is len_is full none longest in
          IsValidUpTo-four (now ++ bytes) four.0 four.1)
    ]

-- bytes of which no front is text
pub EndsAtFault-none : (old new : Decoding) (bytes text : List ℕ) → IsValidUpTo bytes 0 → text ≡ [] → new.held ≡ [] → new.taken ≡ place_after old.taken 0
    → EndsAtFault old new bytes text
EndsAtFault-none old new bytes text valid is held taken = record { valid_len = 0; valid = valid; front = is; held = held; taken = taken }

-- ---- what a step gives

-- the first characters and a text after them were decoded
pub Decodes-ok : {Z : Type 0} (old new : Decoding) (first bytes : List ℕ) (n : ℕ) (text : String Z) → IsUtf8 first → IsTextThenCut bytes n
    → string_bytes text ≡ first ++ take n bytes → new.held ≡ drop n bytes → new.taken ≡ place_after old.taken (length first + n)
    → Decodes old new (first ++ bytes) (Ok text)
Decodes-ok old new first bytes n text utf8 parts is held taken =
    record {
      text = ap (λ t. first ++ t) (sym (take-append-drop n bytes)) ∙ sym (append_assoc first (take n bytes) (drop n bytes))
          ∙ ap (λ t. t ++ drop n bytes) (sym is) ∙ ap (λ t. string_bytes text ++ t) (sym held);
      cut = rw held parts.cut;
      taken = taken ∙ ap (place_after old.taken)
          (sym (ap length is ∙ length-append first (take n bytes) ∙ ap (λ k. length first + k) (length-take-le n bytes parts.within)));
      fault = tt;
      refused = ((λ e. absurd e), λ never. absurd (not_never first bytes n utf8 parts never));
      unchanged = tt;
    }

-- a fault after the first characters was refused
pub Decodes-refused : {Z : Type 0} (old new : Decoding) (first bytes : List ℕ) (n : ℕ) (error : DecodeError) → IsUtf8 first → IsValidUpTo bytes n
    → IsNeverUtf8 bytes → error ≡ NotUtf8 (place_after old.taken (length first + n)) → new ≡ old
    → Decodes {Z = Z} old new (first ++ bytes) (Err error)
Decodes-refused {Z} old new first bytes n error utf8 valid never named same =
    record {
      text = tt;
      cut = tt;
      taken = tt;
      fault = inr (record { valid_len = length first + n; valid = IsValidUpTo-after first bytes n utf8 valid; named = named });
      refused = ((λ _. IsNeverUtf8-after first bytes utf8 never), λ _ memory. cc (named, memory));
      unchanged = same;
    }

-- when out of memory, all stays as it was
pub Decodes-memory : {Z : Type 0} (old new : Decoding) (first bytes : List ℕ) (n : ℕ) (error : DecodeError) → IsUtf8 first → IsTextThenCut bytes n
    → error ≡ Memory → new ≡ old → Decodes {Z = Z} old new (first ++ bytes) (Err error)
Decodes-memory {Z} old new first bytes n error utf8 parts memory same =
    record {
      text = tt;
      cut = tt;
      taken = tt;
      fault = inl memory;
      refused = ((λ other. absurd (other memory)), λ never. absurd (not_never first bytes n utf8 parts never));
      unchanged = same;
    }

pub Decodes-same : {Z : Type 0} (old new : Decoding) (a b : List ℕ) (result : Result (String Z) DecodeError) → a ≡ b → Decodes old new a result
    → Decodes old new b result
Decodes-same old new a b result is decodes = subst (λ t. Decodes old new t result) is decodes
