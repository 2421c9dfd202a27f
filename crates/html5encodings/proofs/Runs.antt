-- What bytes give, part by part.
use Rattle.std.proofs.Common.{◌≡◌, ℕ, suc, ◌+◌, ◌<◌, ◌≤◌, true, List, [], ◌∷◌, ◌++◌, length, take, drop, get_or, None, Some, refl, sym, ap, ◌∙◌, arith, append_assoc, append-nil, take-append-drop, Bool, false}
use Rattle.std.specs.Prelude.{IsAscii, IsUtf8, encode_utf8_all}
use Rattle.std.specs.Borrow.{Bor}
use Rattle.std.specs.List.{list_all}
use Rattle.std.proofs.lemmas.Bool.{and_parts}
use Rattle.std.proofs.lemmas.Bool.Decides.{nat_tests}
use Rattle.std.proofs.lemmas.Str.Ascii.{IsAscii-cons, IsAscii-nil}
use Rattle.std.proofs.lemmas.Grind.{flat_map-append}
use Rattle.std.proofs.lemmas.List.{drop_more, take_all, take_more}
use Rattle.std.proofs.lemmas.Str.{IsUtf8-from_ascii, IsUtf8-nil, encodes-append, encodes-IsAscii}
use lib.Utf8.{scalars}
use Rattle.html5encodings.proofs.Utf8Texts.{given-text}
use Rattle.html5encodings.specs.declared.encoding.Encoding.{Encoding}
use Rattle.html5encodings.specs.declared.encoding.Encoding.TheVariants as encoding
use Rattle.html5encodings.specs.declared.iso_2022_jp.Begun.{Begun}
use Rattle.html5encodings.specs.declared.iso_2022_jp.Begun.TheVariants as begun
use Rattle.html5encodings.specs.declared.iso_2022_jp.Charset.{Charset}
use Rattle.html5encodings.specs.declared.iso_2022_jp.Charset.TheVariants as charset
use Rattle.html5encodings.specs.declared.state.State.{State}
use Rattle.html5encodings.specs.declared.state.State.TheVariants as state
use Rattle.html5encodings.specs.Big5 as big5
use Rattle.html5encodings.specs.Decoding.{Continues, IsState, StandsForItself, at_end, bytes_of, decoded, given, handled, reads_ascii, reads_plain, reads_text, start, state_after}
use Rattle.html5encodings.specs.EucJp as euc_jp
use Rattle.html5encodings.specs.EucKr as euc_kr
use Rattle.html5encodings.specs.Gb18030 as gb18030
use Rattle.html5encodings.specs.Iso2022Jp as iso_2022_jp
use Rattle.html5encodings.specs.ShiftJis as shift_jis
use Rattle.html5encodings.specs.SingleByte as single_byte
use Rattle.html5encodings.specs.Miscellaneous.{user_defined}
use Rattle.html5encodings.specs.declared.encoding.SingleByte.{SingleByte}

-- ---- bytes after bytes

pub given-append : (from : State) (xs ys : List ℕ) → given from (xs ++ ys) ≡ given from xs ++ given (state_after from xs) ys
given-append from [] ys = refl
given-append from (x ∷ xs) ys =
    ap (λ t. (handled from x).0 ++ t) (given-append (handled from x).1 xs ys)
    ∙ sym (append_assoc (handled from x).0 (given (handled from x).1 xs) (given (state_after (handled from x).1 xs) ys))

pub state_after-append : (from : State) (xs ys : List ℕ) → state_after from (xs ++ ys) ≡ state_after (state_after from xs) ys
state_after-append from [] ys = refl
state_after-append from (x ∷ xs) ys = state_after-append (handled from x).1 xs ys

-- ---- ASCII

single_byte-ascii : (single : SingleByte) (x : ℕ) → x < 128 → single_byte.handled single x ≡ x ∷ []
single_byte-ascii single x low = grind (arith, nat_tests)

gb18030-ascii : (x : ℕ) → x < 128 → gb18030.alone x ≡ (x ∷ [], None)
gb18030-ascii x low = grind (arith, nat_tests)

big5-ascii : (x : ℕ) → x < 128 → big5.alone x ≡ (x ∷ [], None)
big5-ascii x low = grind (arith, nat_tests)

euc_jp-ascii : (x : ℕ) → x < 128 → euc_jp.alone x ≡ (x ∷ [], None)
euc_jp-ascii x low = grind (arith, nat_tests)

shift_jis-ascii : (x : ℕ) → x < 128 → shift_jis.alone x ≡ (x ∷ [], None)
shift_jis-ascii x low = grind (arith, nat_tests)

euc_kr-ascii : (x : ℕ) → x < 128 → euc_kr.alone x ≡ (x ∷ [], None)
euc_kr-ascii x low = grind (arith, nat_tests)

user_defined-ascii : (x : ℕ) → x < 128 → user_defined x ≡ x ∷ []
user_defined-ascii x low = grind (arith, nat_tests)

handled-ascii : (from : State) (x : ℕ) → reads_ascii from ≡ true → x < 128 → handled from x ≡ (x ∷ [], from)
unfolding handled reads_ascii
handled-ascii (state.Utf8 part) x reads low = absurd (cc reads)
handled-ascii (state.SingleByte single) x reads low = ap (λ t. (t, state.SingleByte single)) (single_byte-ascii single x low)
handled-ascii (state.Gb18030 None) x reads low = ap (λ h. (h.0, state.Gb18030 h.1)) (gb18030-ascii x low)
handled-ascii (state.Gb18030 (Some p)) x reads low = absurd (cc reads)
handled-ascii (state.Big5 None) x reads low = ap (λ h. (h.0, state.Big5 h.1)) (big5-ascii x low)
handled-ascii (state.Big5 (Some p)) x reads low = absurd (cc reads)
handled-ascii (state.EucJp None) x reads low = ap (λ h. (h.0, state.EucJp h.1)) (euc_jp-ascii x low)
handled-ascii (state.EucJp (Some p)) x reads low = absurd (cc reads)
handled-ascii (state.Iso2022Jp j) x reads low = absurd (cc reads)
handled-ascii (state.ShiftJis None) x reads low = ap (λ h. (h.0, state.ShiftJis h.1)) (shift_jis-ascii x low)
handled-ascii (state.ShiftJis (Some p)) x reads low = absurd (cc reads)
handled-ascii (state.EucKr None) x reads low = ap (λ h. (h.0, state.EucKr h.1)) (euc_kr-ascii x low)
handled-ascii (state.EucKr (Some p)) x reads low = absurd (cc reads)
handled-ascii (state.Replacement returned) x reads low = absurd (cc reads)
handled-ascii (state.Utf16 u) x reads low = absurd (cc reads)
handled-ascii state.UserDefined x reads low = ap (λ t. (t, state.UserDefined)) (user_defined-ascii x low)

given-ascii : (from : State) (xs ys : List ℕ) → reads_ascii from ≡ true → IsAscii xs → given from (xs ++ ys) ≡ xs ++ given from ys
given-ascii from [] ys reads ascii = refl
given-ascii from (x ∷ xs) ys reads ascii =
    ap (λ h. h.0 ++ given h.1 (xs ++ ys)) (handled-ascii from x reads (ascii 0))
    ∙ ap (λ t. x ∷ t) (given-ascii from xs ys reads (λ i. ascii (suc i)))

leaves-ascii : (from : State) (xs ys : List ℕ) → reads_ascii from ≡ true → IsAscii xs → state_after from (xs ++ ys) ≡ state_after from ys
leaves-ascii from [] ys reads ascii = refl
leaves-ascii from (x ∷ xs) ys reads ascii =
    ap (λ h. state_after h.1 (xs ++ ys)) (handled-ascii from x reads (ascii 0))
    ∙ leaves-ascii from xs ys reads (λ i. ascii (suc i))

-- ---- plain ASCII in ISO-2022-JP

after-plain : (by : Charset) (now : Begun) (escaped : Bool) (x : ℕ) → iso_2022_jp.reads_plain by now escaped ≡ true → iso_2022_jp.is_plain x ≡ true
    → iso_2022_jp.handled_after now by escaped x ≡ (x ∷ [], record { charset = by; begun = now; escaped = escaped })
after-plain charset.Ascii begun.Nothing false x reads plain = grind (arith, nat_tests)
after-plain charset.Ascii begun.Nothing true x reads plain = absurd (cc reads)
after-plain charset.Ascii (begun.Lead lead) escaped x reads plain = absurd (cc reads)
after-plain charset.Ascii begun.Escape escaped x reads plain = absurd (cc reads)
after-plain charset.Ascii begun.EscapeDollar escaped x reads plain = absurd (cc reads)
after-plain charset.Ascii begun.EscapeParenthesis escaped x reads plain = absurd (cc reads)
after-plain charset.Roman now escaped x reads plain = absurd (cc reads)
after-plain charset.Katakana now escaped x reads plain = absurd (cc reads)
after-plain charset.Jis0208 now escaped x reads plain = absurd (cc reads)

handled-plain : (from : State) (x : ℕ) → reads_plain from ≡ true → iso_2022_jp.is_plain x ≡ true → handled from x ≡ (x ∷ [], from)
unfolding handled reads_plain
handled-plain (state.Utf8 part) x reads plain = absurd (cc reads)
handled-plain (state.SingleByte single) x reads plain = absurd (cc reads)
handled-plain (state.Gb18030 lead) x reads plain = absurd (cc reads)
handled-plain (state.Big5 lead) x reads plain = absurd (cc reads)
handled-plain (state.EucJp lead) x reads plain = absurd (cc reads)
handled-plain (state.Iso2022Jp j) x reads plain = ap (λ h. (h.0, state.Iso2022Jp h.1)) (after-plain j.charset j.begun j.escaped x reads plain)
handled-plain (state.ShiftJis lead) x reads plain = absurd (cc reads)
handled-plain (state.EucKr lead) x reads plain = absurd (cc reads)
handled-plain (state.Replacement returned) x reads plain = absurd (cc reads)
handled-plain (state.Utf16 u) x reads plain = absurd (cc reads)
handled-plain state.UserDefined x reads plain = absurd (cc reads)

given-plain : (from : State) (xs ys : List ℕ) → reads_plain from ≡ true → list_all iso_2022_jp.is_plain xs ≡ true → given from (xs ++ ys) ≡ xs ++ given from ys
given-plain from [] ys reads plain = refl
given-plain from (x ∷ xs) ys reads plain =
    let parts = and_parts _ _ plain in
    ap (λ h. h.0 ++ given h.1 (xs ++ ys)) (handled-plain from x reads parts.0)
    ∙ ap (λ t. x ∷ t) (given-plain from xs ys reads parts.1)

leaves-plain : (from : State) (xs ys : List ℕ) → reads_plain from ≡ true → list_all iso_2022_jp.is_plain xs ≡ true → state_after from (xs ++ ys) ≡ state_after from ys
leaves-plain from [] ys reads plain = refl
leaves-plain from (x ∷ xs) ys reads plain =
    let parts = and_parts _ _ plain in
    ap (λ h. state_after h.1 (xs ++ ys)) (handled-plain from x reads parts.0)
    ∙ leaves-plain from xs ys reads parts.1

plain-low : (x : ℕ) → iso_2022_jp.is_plain x ≡ true → x < 128
plain-low x plain = grind (arith, nat_tests)

IsAscii-plain : (xs : List ℕ) → list_all iso_2022_jp.is_plain xs ≡ true → IsAscii xs
IsAscii-plain [] plain = IsAscii-nil
IsAscii-plain (x ∷ xs) plain =
    let parts = and_parts _ _ plain in
    IsAscii-cons x xs (plain-low x parts.0) (IsAscii-plain xs parts.1)

-- ---- bytes at the front

pub stands-none : (from : State) → StandsForItself from []
stands-none from = record { text = λ later. refl; leaves = λ later. refl; utf8 = IsUtf8-nil }

pub stands-ascii : (from : State) (front : List ℕ) → reads_ascii from ≡ true → IsAscii front → StandsForItself from front
stands-ascii from front reads ascii =
    record {
      text = λ later.
          ap encode_utf8_all (given-ascii from front later reads ascii) ∙ encodes-append front (given from later)
          ∙ ap (λ t. t ++ encode_utf8_all (given from later)) (encodes-IsAscii front ascii);
      leaves = λ later. leaves-ascii from front later reads ascii;
      utf8 = IsUtf8-from_ascii front ascii;
    }

pub stands-plain : (from : State) (front : List ℕ) → reads_plain from ≡ true → list_all iso_2022_jp.is_plain front ≡ true → StandsForItself from front
stands-plain from front reads plain =
    let ascii = IsAscii-plain front plain in
    record {
      text = λ later.
          ap encode_utf8_all (given-plain from front later reads plain) ∙ encodes-append front (given from later)
          ∙ ap (λ t. t ++ encode_utf8_all (given from later)) (encodes-IsAscii front ascii);
      leaves = λ later. leaves-plain from front later reads plain;
      utf8 = IsUtf8-from_ascii front ascii;
    }

-- in UTF-8 all text stands for itself
stands-spelt : (front : List ℕ) → IsUtf8 front → StandsForItself (state.Utf8 None) front
stands-spelt front spelt =
    let cs = spelt.0 in
    let is = spelt.1.1 in
    let from = state.Utf8 None in
    record {
      text = λ later.
          ap (λ t. encode_utf8_all (given from (t ++ later))) (sym is) ∙ ap encode_utf8_all (given-text cs later spelt.1.0).0
          ∙ encodes-append cs (given from later) ∙ ap (λ t. t ++ encode_utf8_all (given from later)) is;
      leaves = λ later. ap (λ t. state_after from (t ++ later)) (sym is) ∙ (given-text cs later spelt.1.0).1;
      utf8 = spelt;
    }

pub stands-text : (from : State) (front : List ℕ) → reads_text from ≡ true → IsUtf8 front → StandsForItself from front
unfolding reads_text
stands-text (state.Utf8 None) front reads spelt = stands-spelt front spelt
stands-text (state.Utf8 (Some p)) front reads spelt = absurd (cc reads)
stands-text (state.SingleByte single) front reads spelt = absurd (cc reads)
stands-text (state.Gb18030 lead) front reads spelt = absurd (cc reads)
stands-text (state.Big5 lead) front reads spelt = absurd (cc reads)
stands-text (state.EucJp lead) front reads spelt = absurd (cc reads)
stands-text (state.Iso2022Jp j) front reads spelt = absurd (cc reads)
stands-text (state.ShiftJis lead) front reads spelt = absurd (cc reads)
stands-text (state.EucKr lead) front reads spelt = absurd (cc reads)
stands-text (state.Replacement returned) front reads spelt = absurd (cc reads)
stands-text (state.Utf16 u) front reads spelt = absurd (cc reads)
stands-text state.UserDefined front reads spelt = absurd (cc reads)

-- text at the front that stands for itself
pub continues-front : (from : State) (bytes old new run : List ℕ) (n : ℕ) → IsState from → 0 < n → n ≤ length bytes
    → StandsForItself from (take n bytes) → run ≡ take n bytes → new ≡ old ++ run → Continues from bytes old new (n, from)
continues-front from bytes old new run n valid some within stands said is =
    let parts = take-append-drop n bytes in
    let rest = encode_utf8_all (given from (drop n bytes)) in
    record {
      some = some;
      within = within;
      text =
          ap (λ t. t ++ rest) (is ∙ ap (λ t. old ++ t) said) ∙ append_assoc old (take n bytes) rest
          ∙ ap (λ t. old ++ t) (sym (stands.text (drop n bytes)) ∙ ap (λ t. encode_utf8_all (given from t)) parts);
      leaves = sym (stands.leaves (drop n bytes)) ∙ ap (state_after from) parts;
      valid = valid;
    }

-- one byte at the front
pub continues-byte : (from left : State) (bytes old new : List ℕ) → 0 < length bytes
    → new ≡ old ++ encode_utf8_all (handled from (get_or bytes 0 0)).0 → left ≡ (handled from (get_or bytes 0 0)).1 → IsState left
    → Continues from bytes old new (1, left)
continues-byte from left [] old new some is leaves valid = absurd (omega arith)
continues-byte from left (b ∷ bs) old new some is leaves valid =
    let h = handled from b in
    record {
      some = omega arith;
      within = omega arith;
      text =
          ap (λ t. t ++ encode_utf8_all (given left bs)) is
          ∙ append_assoc old (encode_utf8_all h.0) (encode_utf8_all (given left bs))
          ∙ ap (λ t. old ++ t) (sym (encodes-append h.0 (given left bs)) ∙ ap (λ l. encode_utf8_all (h.0 ++ given l bs)) leaves);
      leaves = ap (λ l. state_after l bs) leaves;
      valid = valid;
    }

-- one byte more
pub continues-more : (from reached left : State) (bytes old mid new : List ℕ) (at : ℕ) → Continues from bytes old mid (at, reached) → at < length bytes
    → new ≡ mid ++ encode_utf8_all (handled reached (get_or bytes at 0)).0 → left ≡ (handled reached (get_or bytes at 0)).1 → IsState left
    → Continues from bytes old new (at + 1, left)
continues-more from reached left bytes old mid new at before inside is leaves valid =
    let h = handled reached (get_or bytes at 0) in
    let rest = drop (at + 1) bytes in
    let step = drop_more bytes at 0 inside in
    record {
      some = omega arith;
      within = omega (arith, inside);
      text =
          ap (λ t. t ++ encode_utf8_all (given left rest)) is
          ∙ append_assoc mid (encode_utf8_all h.0) (encode_utf8_all (given left rest))
          ∙ ap (λ t. mid ++ t) (sym (encodes-append h.0 (given left rest)) ∙ ap (λ l. encode_utf8_all (h.0 ++ given l rest)) leaves
          ∙ ap (λ l. encode_utf8_all (given reached l)) (sym step))
          ∙ before.text;
      leaves = ap (λ l. state_after l rest) leaves ∙ ap (state_after reached) (sym step) ∙ before.leaves;
      valid = valid;
    }

-- ---- pieces

bytes_of-more : (pieces : List (Bor (List ℕ))) (i : ℕ) (other : Bor (List ℕ)) → i < length pieces
    → bytes_of (take (i + 1) pieces) ≡ bytes_of (take i pieces) ++ (get_or pieces i other).now
bytes_of-more pieces i other inside =
    let piece = get_or pieces i other in
    ap bytes_of (take_more pieces i other inside)
    ∙ flat_map-append (λ (p : Bor (List ℕ)). p.now) (take i pieces) (piece ∷ []) ∙ ap (λ t. bytes_of (take i pieces) ++ t) (append-nil piece.now)

-- what has come so far, with one more piece
pub all-more : (from : State) (pieces : List (Bor (List ℕ))) (i : ℕ) (other : Bor (List ℕ)) (text more new : List ℕ) (reached left : State) → i < length pieces
    → text ≡ encode_utf8_all (given from (bytes_of (take i pieces))) → reached ≡ state_after from (bytes_of (take i pieces))
    → more ≡ encode_utf8_all (given reached (get_or pieces i other).now) → left ≡ state_after reached (get_or pieces i other).now
    → new ≡ text ++ more
    → (new ≡ encode_utf8_all (given from (bytes_of (take (i + 1) pieces)))) × (left ≡ state_after from (bytes_of (take (i + 1) pieces)))
all-more from pieces i other text more new reached left inside had stood says leaves is =
    let before = bytes_of (take i pieces) in
    let piece = (get_or pieces i other).now in
    let all = sym (bytes_of-more pieces i other inside) in (
      is ∙ ap (λ t. t ++ more) had
          ∙ ap (λ t. encode_utf8_all (given from before) ++ t) (says ∙ ap (λ l. encode_utf8_all (given l piece)) stood)
          ∙ sym (encodes-append (given from before) (given (state_after from before) piece))
          ∙ ap encode_utf8_all (sym (given-append from before piece) ∙ ap (given from) all),
      leaves ∙ ap (λ l. state_after l piece) stood ∙ sym (state_after-append from before piece) ∙ ap (state_after from) all,
    )

-- the end
pub all-ended : (by : Encoding) (pieces : List (Bor (List ℕ))) (i : ℕ) (text more new : List ℕ) (reached : State) → length pieces ≤ i
    → text ≡ encode_utf8_all (given (start by) (bytes_of (take i pieces))) → reached ≡ state_after (start by) (bytes_of (take i pieces))
    → more ≡ encode_utf8_all (at_end reached) → new ≡ text ++ more → new ≡ encode_utf8_all (decoded by (bytes_of pieces))
all-ended by pieces i text more new reached past had stood says is =
    let all = ap bytes_of (take_all i pieces past) in
    let before = bytes_of (take i pieces) in
    is ∙ ap (λ t. t ++ more) had
    ∙ ap (λ t. encode_utf8_all (given (start by) before) ++ t) (says ∙ ap (λ l. encode_utf8_all (at_end l)) stood)
    ∙ sym (encodes-append (given (start by) before) (at_end (state_after (start by) before)))
    ∙ ap (λ b. encode_utf8_all (decoded by b)) all

-- ---- text

pub decoded-text : (cs : List ℕ) → scalars cs ≡ true → decoded encoding.Utf8 (encode_utf8_all cs) ≡ cs
unfolding at_end
decoded-text cs all =
    let both = given-text cs [] all in
    let whole = append-nil (encode_utf8_all cs) in
    let from = state.Utf8 None in
    ap (λ t. t ++ at_end (state_after from (encode_utf8_all cs))) (ap (given from) (sym whole) ∙ both.0 ∙ append-nil cs)
    ∙ ap (λ s. cs ++ at_end s) (ap (state_after from) (sym whole) ∙ both.1) ∙ append-nil cs
