-- Texts that are read quietly, one after another.
use Rattle.std.proofs.Common.{◌≡◌, ◌≢◌, ℕ, ◌<◌, ◌+◌, ◌-◌, ◌≤◌, true, List, [], ◌∷◌, ◌++◌, refl, sym, ap, ◌∙◌, subst, arith, length, length-drop, take, drop, get_or}
use Rattle.std.specs.Prelude.{encode_utf8}
use Rattle.std.specs.Str.{IsUtf8, chars}
use Rattle.std.specs.Char.{is_ascii}
use Rattle.std.proofs.lemmas.Bool.{ltb-true, and_parts}
use Rattle.std.proofs.lemmas.Str.{chars-nil, chars-append, chars_past_char, chars-IsAscii, scalars-chars, IsUtf8-take, IsUtf8-drop, IsUtf8-past_char, IsCharBoundary-from_drop, IsCharBoundary-after_ascii}
use Rattle.std.proofs.lemmas.Str.Ascii.{IsAscii-nil, IsAscii-cons}
use Rattle.std.proofs.lemmas.List.{append-nil, take_at, drop_at, take-append-drop, length-take-le}
use Rattle.std.proofs.Math.Seq.{take-append-add, drop-append-add}
use lib.Utf8.{scalar, scalars}
use Rattle.html5reading.specs.Start.{Open}
use Rattle.html5fast_path.specs.Quiet.{BeginsWithCharacter, IsQuiet, ReadsFront, ReadsQuietly}

-- nothing was read
pub reads-nothing : (opened later : Open) → opened ≡ later → ReadsQuietly opened (chars []) later
unfolding ReadsQuietly
reads-nothing opened later same = rw chars-nil same

pub reads-one : (opened later : Open) (c : ℕ) → IsQuiet opened later c → ReadsQuietly opened (c ∷ []) later
unfolding ReadsQuietly
reads-one opened later c quiet = (later, (quiet, refl))

pub reads-append : (opened middle later : Open) (front more : List ℕ) → ReadsQuietly opened front middle → ReadsQuietly middle more later → ReadsQuietly opened (front ++ more) later
unfolding ReadsQuietly
reads-append opened middle later [] more first second = subst (λ o. ReadsQuietly o more later) (sym first) second
reads-append opened middle later (c ∷ front) more first second =
    (first.0, (first.1.0, reads-append first.0 middle later front more first.1.1 second))

-- a text begins with its first byte, where that is ASCII
pub ascii-begins : (text : List ℕ) (b : ℕ) → IsUtf8 text → 0 < length text → b ≡ get_or text 0 b → is_ascii b ≡ true → BeginsWithCharacter text b
ascii-begins [] b utf8 filled same ascii = absurd (omega (arith, filled))
ascii-begins (a ∷ text) b utf8 filled same ascii =
    let small : a < 128 = subst (λ x. x < 128) same (ltb-true b 128 ascii) in
    record {
      within = omega arith;
      rest_utf8 = IsUtf8-drop (a ∷ text) 1 utf8 (IsCharBoundary-after_ascii (a ∷ text) 0 utf8 filled small);
      first = chars-IsAscii (a ∷ []) (IsAscii-cons a [] small IsAscii-nil) ∙ ap (λ x. x ∷ []) (sym same);
    }

-- nothing was read, so nothing changed
pub nothing-read : (opened later : Open) → ReadsQuietly opened (chars []) later → opened ≡ later
unfolding ReadsQuietly
nothing-read opened later read = rw chars-nil at read

-- a text without its first character, and that character
pub first-parts : (text rest : List ℕ) (c : ℕ) → IsUtf8 text → text ≡ encode_utf8 c ++ rest
    → IsUtf8 (drop (length (encode_utf8 c)) text) × (length (chars (take (length (encode_utf8 c)) text)) ≤ 1)
first-parts text rest c utf8 parts =
    let n : ℕ = length (encode_utf8 c) in
    let past : drop n text ≡ rest = ap (drop n) parts ∙ drop_at (encode_utf8 c) rest n refl in
    let first : take n text ≡ encode_utf8 c = ap (take n) parts ∙ take_at (encode_utf8 c) rest n refl in
    let scalar_first : scalars (c ∷ chars rest) ≡ true = ap scalars (sym (chars_past_char text rest c utf8 parts)) ∙ scalars-chars text utf8 in
    let one : IsUtf8 (encode_utf8 c) = (c ∷ [], (rw ((and_parts (scalar c) (scalars (chars rest)) scalar_first).0) refl, append-nil (encode_utf8 c))) in
    let is_one : chars (take n text) ≡ c ∷ [] = ap chars first ∙ chars_past_char (encode_utf8 c) [] c one (sym (append-nil (encode_utf8 c))) ∙ ap (λ l. c ∷ l) chars-nil in
    (subst IsUtf8 (sym past) (IsUtf8-past_char text rest c utf8 parts), rw is_one (omega arith))

pub no_character : length (chars []) ≤ 1
no_character = rw chars-nil (omega arith)

-- ---- a text that is read in two parts

pub take-two : (text : List ℕ) (m n : ℕ) → m ≤ length text → take (m + n) text ≡ take m text ++ take n (drop m text)
take-two text m n within =
    ap (take (m + n)) (sym (take-append-drop m text))
    ∙ ap (λ k. take (k + n) (take m text ++ drop m text)) (sym (length-take-le m text within))
    ∙ take-append-add (take m text) (drop m text) n

pub drop-two : (text : List ℕ) (m n : ℕ) → m ≤ length text → drop (m + n) text ≡ drop n (drop m text)
drop-two text m n within =
    ap (drop (m + n)) (sym (take-append-drop m text))
    ∙ ap (λ k. drop (k + n) (take m text ++ drop m text)) (sym (length-take-le m text within))
    ∙ drop-append-add (take m text) (drop m text) n

pub chars-two : (text : List ℕ) (m n : ℕ) → IsUtf8 text → m ≤ length text → IsUtf8 (drop m text)
    → chars (take (m + n) text) ≡ chars (take m text) ++ chars (take n (drop m text))
chars-two text m n utf8 within rest_utf8 =
    ap chars (take-two text m n within)
    ∙ chars-append (take m text) (take n (drop m text)) (IsUtf8-take text m utf8 (IsCharBoundary-from_drop text m within rest_utf8))

-- nothing of a text was read
pub front-nothing : (text : List ℕ) (opened later : Open) → IsUtf8 text → opened ≡ later → ReadsFront text 0 opened later
front-nothing text opened later utf8 same = record { within = omega arith; rest_utf8 = utf8; quiet = reads-nothing opened later same }

-- a text begins with a character that tells nothing
pub front-one : (text : List ℕ) (c : ℕ) (opened later : Open) → BeginsWithCharacter text c → IsQuiet opened later c → ReadsFront text 1 opened later
front-one text c opened later begins quiet = record { within = begins.within; rest_utf8 = begins.rest_utf8; quiet = rw begins.first (reads-one opened later c quiet) }

-- the front of a text, and then that of the rest
pub front-append : (text : List ℕ) (m n : ℕ) (opened middle later : Open) → IsUtf8 text → ReadsFront text m opened middle → ReadsFront (drop m text) n middle later
    → ReadsFront text (m + n) opened later
front-append text m n opened middle later utf8 first second = record {
  within = omega (arith, first.within, second.within, length-drop m text);
  rest_utf8 = subst IsUtf8 (sym (drop-two text m n first.within)) second.rest_utf8;
  quiet =
      rw (chars-two text m n utf8 first.within first.rest_utf8)
      (reads-append opened middle later (chars (take m text)) (chars (take n (drop m text))) first.quiet second.quiet);
}

-- where a front is empty nothing has changed
pub front-same : (text : List ℕ) (opened later : Open) → ReadsFront text 0 opened later → opened ≡ later
front-same text opened later reads = nothing-read opened later reads.quiet

-- the characters of a front that is not empty begin with the first
pub front-begins : (text : List ℕ) (len c : ℕ) → IsUtf8 text → BeginsWithCharacter text c → len ≢ 0 → chars (take len text) ≡ c ∷ chars (take (len - 1) (drop 1 text))
front-begins text len c utf8 begins some =
    let more : ℕ = len - 1 in
    let all : len ≡ 1 + more = omega (arith, some) in
    ap (λ k. chars (take k text)) all
    ∙ chars-two text 1 more utf8 begins.within begins.rest_utf8
    ∙ ap (λ front. front ++ chars (take more (drop 1 text))) begins.first
