-- Walks through a text, from place to place.
use Rattle.std.proofs.Common.{◌≡◌, ℕ, ◌+◌, ◌-◌, ◌<◌, ◌≤◌, ◌&&◌, Bool, true, false, not, List, [], ◌∷◌, ◌++◌, length, refl, sym, ap, ◌∙◌, arith}
use Rattle.std.specs.Prelude.{◌==◌, encode_utf8, get_or, if◌then◌else◌, min, take}
use Rattle.std.specs.Str.{IsUtf8, chars}
use Rattle.std.proofs.lemmas.List.{take_more}
use Rattle.std.proofs.lemmas.List.Folds.{list_all-append}
use Rattle.std.specs.Bool.{nat_le, nat_lt}
use Rattle.std.specs.List.{list_all}
use Rattle.std.specs.Char.{len_utf8}
use Rattle.std.proofs.lemmas.Str.{IsUtf8-past_char, chars_past_char, encode_ascii, len_utf8_ascii, len_utf8_bounds}
use Rattle.std.proofs.lemmas.Bool.{true≢false}
use Rattle.html5places.proofs.Walking.{walk-more, walk-none}
use Rattle.html5places.specs.Cursor.{advanced, characters_before, cursor_at, is_plain, onward, position_before}
use Rattle.html5places.specs.declared.positions.Position.{Position}
use Rattle.html5places.specs.Positions.{along, first_position, highest, past_character, past_characters, walked}
use Rattle.html5reading.specs.Characters.{carriage_return, line_feed}
use Rattle.html5reading.specs.NormalisedText.{with_line_feeds}

-- to one place and then to a later one
further-by : (to later place : ℕ) (position : Position) (after_cr : Bool) (c : ℕ) (rest : List ℕ) (ends : Bool) → nat_le (len_utf8 c) (to - place) ≡ ends
    → to ≤ later
    → onward later (advanced to (place + len_utf8 c) (walked position after_cr c) (c == carriage_return) rest)
    ≡ advanced later (place + len_utf8 c) (walked position after_cr c) (c == carriage_return) rest
    → onward later (advanced to place position after_cr (c ∷ rest)) ≡ advanced later place position after_cr (c ∷ rest)
unfolding advanced
further-by to later place position after_cr c rest true is later_is more =
    let also : nat_le (len_utf8 c) (later - place) ≡ true = grind (arith) in
    rw is (rw also more)
further-by to later place position after_cr c rest false is later_is more = rw is refl

further-none : (to later place : ℕ) (position : Position) (after_cr : Bool)
    → onward later (advanced to place position after_cr []) ≡ advanced later place position after_cr []
unfolding advanced
further-none to later place position after_cr = refl

pub further : (to later place : ℕ) (position : Position) (after_cr : Bool) (rest : List ℕ) → to ≤ later
    → onward later (advanced to place position after_cr rest) ≡ advanced later place position after_cr rest
further to later place position after_cr [] up = further-none to later place position after_cr
further to later place position after_cr (c ∷ rest) up =
    further-by to later place position after_cr c rest (nat_le (len_utf8 c) (to - place)) refl up
    (further to later (place + len_utf8 c) (walked position after_cr c) (c == carriage_return) rest up)

-- the position after the characters that end at a place or before it
position-by : (to place : ℕ) (position : Position) (after_cr : Bool) (c : ℕ) (rest : List ℕ) (ends : Bool) → nat_le (len_utf8 c) (to - place) ≡ ends
    → (advanced to (place + len_utf8 c) (walked position after_cr c) (c == carriage_return) rest).position
    ≡ past_characters (walked position after_cr c) (with_line_feeds (c == carriage_return) (characters_before (to - (place + len_utf8 c)) rest))
    → (advanced to place position after_cr (c ∷ rest)).position ≡ past_characters position (with_line_feeds after_cr (characters_before (to - place) (c ∷ rest)))
unfolding advanced characters_before
position-by to place position after_cr c rest true is more =
    let left : to - (place + len_utf8 c) ≡ (to - place) - len_utf8 c = grind (arith) in
    rw is (more ∙ ap (λ n. past_characters (walked position after_cr c) (with_line_feeds (c == carriage_return) (characters_before n rest))) left
    ∙ walk-more position after_cr c (characters_before ((to - place) - len_utf8 c) rest))
position-by to place position after_cr c rest false is more = rw is (sym (walk-none position after_cr))

is-none : (to place : ℕ) (position : Position) (after_cr : Bool) → (advanced to place position after_cr []).position ≡ position
unfolding advanced
is-none to place position after_cr = refl

before-none : (n : ℕ) → characters_before n [] ≡ []
unfolding characters_before
before-none n = refl

position-after : (to place : ℕ) (position : Position) (after_cr : Bool) (rest : List ℕ)
    → (advanced to place position after_cr rest).position ≡ past_characters position (with_line_feeds after_cr (characters_before (to - place) rest))
position-after to place position after_cr [] =
    let none : (advanced to place position after_cr []).position ≡ position = is-none to place position after_cr in
    none ∙ sym (walk-none position after_cr) ∙ ap (λ t. past_characters position (with_line_feeds after_cr t)) (sym (before-none (to - place)))
position-after to place position after_cr (c ∷ rest) =
    position-by to place position after_cr c rest (nat_le (len_utf8 c) (to - place)) refl
    (position-after to (place + len_utf8 c) (walked position after_cr c) (c == carriage_return) rest)

monus-0 : (n : ℕ) → n - 0 ≡ n
monus-0 n = grind (arith)

pub position-at : (to : ℕ) (text : List ℕ) → (cursor_at to text).position ≡ position_before to text
position-at to text =
    position-after to 0 first_position false text ∙ ap (λ n. past_characters first_position (with_line_feeds false (characters_before n text))) (monus-0 to)

starts : (c : ℕ) (text : List ℕ) (ends : Bool) → nat_le (len_utf8 c) 0 ≡ ends
    → advanced 0 0 first_position false (c ∷ text) ≡ record { rest = c ∷ text; place = 0; position = first_position; after_cr = false }
unfolding advanced
starts c text true is =
    let never : nat_le (len_utf8 c) 0 ≡ false = grind (arith, len_utf8_bounds c) in
    absurd (true≢false (sym is ∙ never))
starts c text false is = rw is refl

-- at the first place nothing is passed
pub at-start : (text : List ℕ) → cursor_at 0 text ≡ record { rest = text; place = 0; position = first_position; after_cr = false }
unfolding advanced
at-start [] = refl
at-start (c ∷ text) = starts c text (nat_le (len_utf8 c) 0) refl

-- one more character
pub onward-more : (to place : ℕ) (position : Position) (after_cr : Bool) (c : ℕ) (rest : List ℕ) → nat_le (len_utf8 c) (to - place) ≡ true
    → advanced to place position after_cr (c ∷ rest) ≡ advanced to (place + len_utf8 c) (walked position after_cr c) (c == carriage_return) rest
unfolding advanced
onward-more to place position after_cr c rest is = rw is refl

pub onward-stops : (to place : ℕ) (position : Position) (after_cr : Bool) (c : ℕ) (rest : List ℕ) → nat_le (len_utf8 c) (to - place) ≡ false
    → advanced to place position after_cr (c ∷ rest) ≡ record { rest = c ∷ rest; place = place; position = position; after_cr = after_cr }
unfolding advanced
onward-stops to place position after_cr c rest is = rw is refl

pub onward-ends : (to place : ℕ) (position : Position) (after_cr : Bool)
    → advanced to place position after_cr [] ≡ record { rest = []; place = place; position = position; after_cr = after_cr }
unfolding advanced
onward-ends to place position after_cr = refl

-- ---- plain bytes

-- a plain byte is ASCII, and ends no line
plain-by : (c : ℕ) (ascii is_lf is_cr : Bool) → (ascii && (not is_lf && not is_cr)) ≡ true → (ascii ≡ true) × ((is_lf ≡ false) × (is_cr ≡ false))
plain-by c true true is_cr plain = absurd (true≢false (sym plain))
plain-by c true false true plain = absurd (true≢false (sym plain))
plain-by c true false false plain = (refl, (refl, refl))
plain-by c false is_lf is_cr plain = absurd (true≢false (sym plain))

along-one : (p : Position) (c : ℕ) (is_lf : Bool) (units : ℕ) → is_lf ≡ false → units ≡ 1
    → (if is_lf then record { line = min (p.line + 1) highest; column = 1; utf16_column = 1 }
    else record { line = p.line; column = min (p.column + 1) highest; utf16_column = min (p.utf16_column + units) highest }) ≡ along p 1
along-one p c true units never one = absurd (true≢false never)
along-one p c false units never one = ap (λ n. record { line = p.line; column = min (p.column + 1) highest; utf16_column = min (p.utf16_column + n) highest }) one

and-false : (a b : Bool) → b ≡ false → (a && b) ≡ false
and-false true b is = is
and-false false b is = refl

utf16-one : (c : ℕ) (is_narrow : Bool) → is_narrow ≡ true → ◌≡◌ {A = ℕ} (if is_narrow then 1 else 2) 1
utf16-one c true is = refl
utf16-one c false is = absurd (true≢false (sym is))

and-parts : (a b : Bool) → (a && b) ≡ true → (a ≡ true) × (b ≡ true)
and-parts true b both = (refl, both)
and-parts false b both = absurd (true≢false (sym both))

plain-step : (p : Position) (after_cr : Bool) (c : ℕ) → is_plain c ≡ true → (walked p after_cr c ≡ along p 1) × ((c == carriage_return) ≡ false)
plain-step p after_cr c plain =
    let parts = plain-by c (nat_lt c 0x80) (c == line_feed) (c == carriage_return) plain in
    let narrow : ◌≡◌ {A = ℕ} (if nat_lt c 0x10000 then 1 else 2) 1 = utf16-one c (nat_lt c 0x10000) (grind (arith, parts.0)) in
    let no_break : (after_cr && (c == line_feed)) ≡ false = and-false after_cr (c == line_feed) parts.1.0 in (
      ap (λ (b : Bool). if b then p else (past_character p (if c == carriage_return then line_feed else c))) no_break
          ∙ ap (λ (b : Bool). past_character p (if b then line_feed else c)) parts.1.1
          ∙ along-one p c (c == line_feed) _ parts.1.0 narrow,
      parts.1.1,
    )

along-more : (p : Position) (n : ℕ) → along (along p 1) n ≡ along p (1 + n)
along-more p n =
    let column : min (min (p.column + 1) highest + n) highest ≡ min (p.column + (1 + n)) highest = grind (arith) in
    let units : min (min (p.utf16_column + 1) highest + n) highest ≡ min (p.utf16_column + (1 + n)) highest = grind (arith) in
    ap (λ k. record { line = p.line; column = k; utf16_column = min (min (p.utf16_column + 1) highest + n) highest }) column
    ∙ ap (λ k. record { line = p.line; column = min (p.column + (1 + n)) highest; utf16_column = k }) units

plain-first : (to place : ℕ) (position : Position) (after_cr : Bool) (c : ℕ) (rest : List ℕ) → is_plain c ≡ true → 1 ≤ to - place
    → advanced to place position after_cr (c ∷ rest) ≡ advanced to (place + 1) (along position 1) false rest
plain-first to place position after_cr c rest plain room =
    let step = plain-step position after_cr c plain in
    let one : len_utf8 c ≡ 1 = len_utf8_ascii c (grind (arith, (plain-by c (nat_lt c 0x80) (c == line_feed) (c == carriage_return) plain).0)) in
    let fits : nat_le (len_utf8 c) (to - place) ≡ true = grind (arith) in
    onward-more to place position after_cr c rest fits
    ∙ ap (λ n. advanced to (place + n) (walked position after_cr c) (c == carriage_return) rest) one
    ∙ ap (λ p. advanced to (place + 1) p (c == carriage_return) rest) step.0
    ∙ ap (λ b. advanced to (place + 1) (along position 1) b rest) step.1

-- plain bytes, of which there is one at least, one after the other
pub plain-run : (to place : ℕ) (position : Position) (after_cr : Bool) (c : ℕ) (more rest : List ℕ) → list_all is_plain (c ∷ more) ≡ true
    → 1 + length more ≤ to - place
    → advanced to place position after_cr (c ∷ (more ++ rest)) ≡ advanced to (place + (1 + length more)) (along position (1 + length more)) false rest
plain-run to place position after_cr c [] rest plain room =
    plain-first to place position after_cr c rest (and-parts (is_plain c) true plain).0 room
plain-run to place position after_cr c (d ∷ more) rest plain room =
    let parts = and-parts (is_plain c) (list_all is_plain (d ∷ more)) plain in
    let len : length (d ∷ more) ≡ 1 + length more = grind (arith) in
    let left : 1 + length more ≤ to - (place + 1) = grind (arith) in
    let further : (place + 1) + (1 + length more) ≡ place + (1 + (1 + length more)) = grind (arith) in
    plain-first to place position after_cr c (d ∷ (more ++ rest)) parts.0 (grind (arith))
    ∙ plain-run to (place + 1) (along position 1) false d more rest parts.1 left
    ∙ ap (λ n. advanced to n (along (along position 1) (1 + length more)) false rest) further
    ∙ ap (λ p. advanced to (place + (1 + (1 + length more))) p false rest) (along-more position (1 + length more))
    ∙ ap (λ n. advanced to (place + (1 + n)) (along position (1 + n)) false rest) (sym len)

-- the same of a text that begins with plain bytes
pub plain-runs : (to place : ℕ) (position : Position) (after_cr : Bool) (run rest : List ℕ) → list_all is_plain run ≡ true → 0 < length run
    → length run ≤ to - place
    → advanced to place position after_cr (run ++ rest) ≡ advanced to (place + length run) (along position (length run)) false rest
plain-runs to place position after_cr [] rest plain some room =
    let never : ⊥ = grind (arith) in
    absurd never
plain-runs to place position after_cr (c ∷ more) rest plain some room =
    let len : length (c ∷ more) ≡ 1 + length more = grind (arith) in
    plain-run to place position after_cr c more rest plain (grind (arith))
    ∙ ap (λ n. advanced to (place + n) (along position n) false rest) (sym len)

-- one more plain byte
pub plain-more : (bytes : List ℕ) (i d : ℕ) → i < length bytes → list_all is_plain (take i bytes) ≡ true → is_plain (get_or bytes i d) ≡ true
    → list_all is_plain (take (i + 1) bytes) ≡ true
plain-more bytes i d inside before here =
    ap (list_all is_plain) (take_more bytes i d inside) ∙ list_all-append is_plain (take i bytes) (get_or bytes i d ∷ [])
    ∙ ap (λ b. b && (is_plain (get_or bytes i d) && true)) before ∙ ap (λ b. b && true) here

-- a text that begins with plain bytes: the rest is a text, and these are its first characters
pub plain-front : (run rest : List ℕ) → list_all is_plain run ≡ true → IsUtf8 (run ++ rest) → IsUtf8 rest × (chars (run ++ rest) ≡ run ++ chars rest)
plain-front [] rest plain utf8 = (utf8, refl)
plain-front (c ∷ run) rest plain utf8 =
    let parts = and-parts (is_plain c) (list_all is_plain run) plain in
    let ascii = (plain-by c (nat_lt c 0x80) (c == line_feed) (c == carriage_return) parts.0).0 in
    let first : c ∷ (run ++ rest) ≡ encode_utf8 c ++ (run ++ rest) = ap (λ l. l ++ (run ++ rest)) (sym (encode_ascii c (grind (arith)))) in
    let more = plain-front run rest parts.1 (IsUtf8-past_char (c ∷ (run ++ rest)) (run ++ rest) c utf8 first) in
    (more.0, chars_past_char (c ∷ (run ++ rest)) (run ++ rest) c utf8 first ∙ ap (λ l. c ∷ l) more.1)
