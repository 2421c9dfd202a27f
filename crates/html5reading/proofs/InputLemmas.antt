-- How the characters of a text come in, in two parts, and one by one.
use Rattle.std.proofs.Common.{◌≡◌, ◌≢◌, ◌⊎◌, inl, inr, ℕ, ◌+◌, ◌<◌, ◌^◌, Bool, true, false, cond, List, [], ◌∷◌, ◌++◌, refl, ap, sym, ◌∙◌, arith, min}
use Rattle.std.specs.Prelude.{◌==◌, ◌&&◌}
use Rattle.std.proofs.lemmas.Bool.{eqb-true, ne_eqb, and_parts, or_cases}
use Rattle.std.proofs.lemmas.List.{append_assoc, append-nil}
use Rattle.std.proofs.lemmas.List.Sums.{sum_by-append}
use Rattle.html5reading.specs.Characters.{line_feed, carriage_return, byte_order_mark}
use Rattle.html5reading.specs.NormalisedText.{with_line_feeds, without_dropped_first, normalised, drops_first, line_after, last_line, ends_with_carriage_return, input_after}
use Rattle.html5reading.specs.Start.{Input}

-- normalised text

-- line breaks of two texts are those of the first, and of the second after the CR with which the first may end
with_line_feeds-append : (b : Bool) (X Z : List ℕ)
    → with_line_feeds b (X ++ Z) ≡ with_line_feeds b X ++ with_line_feeds (ends_with_carriage_return b X) Z
unfolding with_line_feeds ends_with_carriage_return
with_line_feeds-append b [] Z = refl
with_line_feeds-append b (c ∷ X) Z =
    elim (c == carriage_return) as (λ v. cond v (line_feed ∷ with_line_feeds true (X ++ Z)) (cond (b && (c == line_feed)) (with_line_feeds false (X ++ Z)) (c ∷ with_line_feeds false (X ++ Z)))
    ≡ cond v (line_feed ∷ with_line_feeds true X) (cond (b && (c == line_feed)) (with_line_feeds false X) (c ∷ with_line_feeds false X)) ++ with_line_feeds (ends_with_carriage_return v X) Z) [
      | true ↦ ap (λ l. line_feed ∷ l) (with_line_feeds-append true X Z)
      | false ↦
          elim (b && (c == line_feed)) as (λ v. cond v (with_line_feeds false (X ++ Z)) (c ∷ with_line_feeds false (X ++ Z))
          ≡ cond v (with_line_feeds false X) (c ∷ with_line_feeds false X) ++ with_line_feeds (ends_with_carriage_return false X) Z) [
            | true ↦ with_line_feeds-append false X Z
            | false ↦ ap (λ l. c ∷ l) (with_line_feeds-append false X Z)
          ]
    ]

-- a character that is dropped first is no CR
pub dropped-no_cr : (I : Input) (c : ℕ) → drops_first I c ≡ true → (c == carriage_return) ≡ false
dropped-no_cr I c d =
    let here : (x : ℕ) → (x == carriage_return) ≡ false → (b : Bool) → (b && (c == x)) ≡ true → (c == carriage_return) ≡ false =
    λ x other b h. rw (eqb-true c x (and_parts b (c == x) h).1) other in
    elim (or_cases (I.drops_byte_order_mark && (c == byte_order_mark)) (I.after_carriage_return && (c == line_feed)) d) [
      | inl h ↦ here byte_order_mark refl I.drops_byte_order_mark h
      | inr h ↦ here line_feed refl I.after_carriage_return h
    ]

-- a LF after a CR may be dropped before the rest is normalised
with_line_feeds-first : (b : Bool) (c : ℕ) (Z : List ℕ) (d : Bool) → (b && (c == line_feed)) ≡ d
    → with_line_feeds b (c ∷ Z) ≡ with_line_feeds false (cond d Z (c ∷ Z))
unfolding with_line_feeds
with_line_feeds-first b c Z true h = rw (h, eqb-true c line_feed (and_parts b (c == line_feed) h).1) refl
with_line_feeds-first b c Z false h = rw h refl

-- a text that goes on is normalised from the flag that the text before leaves
with_line_feeds-restart : (I : Input) (b : Bool) (Z : List ℕ) → I.after_carriage_return ≡ b → I.drops_byte_order_mark ≡ false
    → with_line_feeds b Z ≡ normalised I Z
unfolding with_line_feeds normalised without_dropped_first
with_line_feeds-restart I b [] cr bom = refl
with_line_feeds-restart I b (c ∷ Z) cr bom = rw (bom, cr) (with_line_feeds-first b c Z (b && (c == line_feed)) refl)

-- the rest after a text is normalised from the start after it
normalised-cons-append : (I : Input) (c : ℕ) (X Z : List ℕ) (d : Bool) → drops_first I c ≡ d
    → with_line_feeds false (cond d (X ++ Z) (c ∷ X ++ Z))
    ≡ with_line_feeds false (cond d X (c ∷ X)) ++ with_line_feeds (ends_with_carriage_return false (c ∷ X)) Z
unfolding ends_with_carriage_return
normalised-cons-append I c X Z true h = rw (dropped-no_cr I c h) (with_line_feeds-append false X Z)
normalised-cons-append I c X Z false h = with_line_feeds-append false (c ∷ X) Z

pub normalised-append : (I : Input) (X Z : List ℕ) → normalised I (X ++ Z) ≡ normalised I X ++ normalised (input_after I X) Z
unfolding normalised without_dropped_first input_after with_line_feeds
normalised-append I [] Z = refl
normalised-append I (c ∷ X) Z =
    normalised-cons-append I c X Z (drops_first I c) refl
    ∙ ap (λ l. normalised I (c ∷ X) ++ l)
    (with_line_feeds-restart (input_after I (c ∷ X)) (ends_with_carriage_return false (c ∷ X)) Z refl refl)

-- the line after a character
unfoldable pub line_past : ℕ → ℕ → ℕ
line_past line c = min (line + cond (c == line_feed) 1 0) last_line

-- the line after a text
unfoldable pub lines_past : ℕ → List ℕ → ℕ
lines_past line [] = line
lines_past line (c ∷ Y) = lines_past (line_past line c) Y

-- lines

pub line_after-past : (I : Input) (before : List ℕ) (c : ℕ) → line_after I (before ++ c ∷ []) ≡ line_past (line_after I before) c
unfolding line_after line_past
line_after-past I before c = rw (sum_by-append (λ (d : ℕ). cond (d == line_feed) 1 0) before (c ∷ [])) (omega arith)

-- no character is on the start's line
pub line_after-none : (I : Input) → I.line < 2 ^ 64 → line_after I [] ≡ I.line
unfolding line_after
line_after-none I h = omega arith

pub line_after-last : (I : Input) (Y : List ℕ) → min (line_after I Y + 0) last_line ≡ line_after I Y
unfolding line_after
line_after-last I Y = omega arith

-- what is past the start of a text counts on from the line that the text before it reached
line_after-append : (I J : Input) (Y W : List ℕ) → J.line ≡ line_after I Y → line_after I (Y ++ W) ≡ line_after J W
unfolding line_after
line_after-append I J Y W e = rw (e, sum_by-append (λ (c : ℕ). cond (c == line_feed) 1 0) Y W) (omega arith)

ends_with_carriage_return-append : (b : Bool) (X Z : List ℕ)
    → ends_with_carriage_return b (X ++ Z) ≡ ends_with_carriage_return (ends_with_carriage_return b X) Z
unfolding ends_with_carriage_return
ends_with_carriage_return-append b [] Z = refl
ends_with_carriage_return-append b (c ∷ X) Z = ends_with_carriage_return-append (c == carriage_return) X Z

pub line_after-lines_past : (I : Input) (before Y : List ℕ) → line_after I (before ++ Y) ≡ lines_past (line_after I before) Y
unfolding lines_past
line_after-lines_past I before [] = ap (line_after I) (append-nil before)
line_after-lines_past I before (c ∷ Y) =
    ap (line_after I) (sym (append_assoc before (c ∷ []) Y))
    ∙ line_after-lines_past I (before ++ c ∷ []) Y
    ∙ ap (λ line. lines_past line Y) (line_after-past I before c)

-- the line that the rest after a text starts on
pub input_after-line_none : (I : Input) (X : List ℕ) → line_after (input_after I X) [] ≡ lines_past (line_after I []) (normalised I X)
unfolding input_after normalised without_dropped_first with_line_feeds lines_past line_after
input_after-line_none I [] = refl
input_after-line_none I (c ∷ X) =
    line_after-last I (normalised I (c ∷ X)) ∙ line_after-lines_past I [] (normalised I (c ∷ X))

pub input_after-append : (I : Input) (X Z : List ℕ) → input_after I (X ++ Z) ≡ input_after (input_after I X) Z
unfolding input_after ends_with_carriage_return
input_after-append I [] Z = refl
input_after-append I (c ∷ X) [] = ap (input_after I) (append-nil (c ∷ X))
input_after-append I (c ∷ X) (d ∷ Z) =
    let J : Input = input_after I (c ∷ X) in
    let line : line_after I (normalised I ((c ∷ X) ++ d ∷ Z)) ≡ line_after J (normalised J (d ∷ Z)) =
    ap (line_after I) (normalised-append I (c ∷ X) (d ∷ Z)) ∙ line_after-append I J (normalised I (c ∷ X)) (normalised J (d ∷ Z)) refl in
    rw (line, ends_with_carriage_return-append false (c ∷ X) (d ∷ Z)) refl

pub input_after-line_one : (I : Input) (c d : ℕ) → normalised I (c ∷ []) ≡ d ∷ [] → line_past (line_after I []) d ≡ (input_after I (c ∷ [])).line
unfolding input_after
input_after-line_one I c d e = sym (line_after-past I [] d) ∙ rw e refl

-- one character further

pub normalised-dropped : (I : Input) (c : ℕ) → drops_first I c ≡ true → normalised I (c ∷ []) ≡ []
unfolding normalised without_dropped_first with_line_feeds
normalised-dropped I c d = rw d refl

pub normalised-kept : (I : Input) (c : ℕ) → drops_first I c ≡ false → normalised I (c ∷ []) ≡ cond (c == carriage_return) (line_feed ∷ []) (c ∷ [])
unfolding normalised without_dropped_first with_line_feeds
normalised-kept I c d = rw d refl

-- the start after a character for which Y is read
input_after-reads : (I : Input) (c : ℕ) (Y : List ℕ) → normalised I (c ∷ []) ≡ Y
    → input_after I (c ∷ []) ≡ record { line = line_after I Y; after_carriage_return = c == carriage_return; drops_byte_order_mark = false }
unfolding input_after ends_with_carriage_return
input_after-reads I c Y e = rw e refl

line_after-one : (I : Input) (c : ℕ) → line_after I (c ∷ []) ≡ min (I.line + cond (c == line_feed) 1 0) last_line
unfolding line_after
line_after-one I c = omega arith

pub advance-dropped : (I : Input) (c : ℕ) → drops_first I c ≡ true → I.line < 2 ^ 64
    → record { line = I.line; after_carriage_return = false; drops_byte_order_mark = false } ≡ input_after I (c ∷ [])
advance-dropped I c d h =
    rw (input_after-reads I c [] (normalised-dropped I c d), dropped-no_cr I c d, line_after-none I h) refl

pub normalised-other : (I : Input) (c : ℕ) → drops_first I c ≡ false → c ≢ carriage_return → normalised I (c ∷ []) ≡ c ∷ []
normalised-other I c d ncr = normalised-kept I c d ∙ rw (ne_eqb c carriage_return ncr) refl

pub advance-other : (I : Input) (c : ℕ) → drops_first I c ≡ false → c ≢ carriage_return → c ≢ line_feed → I.line < 2 ^ 64
    → record { line = I.line; after_carriage_return = false; drops_byte_order_mark = false } ≡ input_after I (c ∷ [])
advance-other I c d ncr nlf h =
    let same : line_after I (c ∷ []) ≡ I.line = line_after-one I c ∙ rw (ne_eqb c line_feed nlf) (omega arith) in
    rw (input_after-reads I c (c ∷ []) (normalised-other I c d ncr), ne_eqb c carriage_return ncr, same) refl

pub normalised-break : (I : Input) (c : ℕ) → drops_first I c ≡ false → (c ≡ carriage_return) ⊎ (c ≡ line_feed) → normalised I (c ∷ []) ≡ line_feed ∷ []
normalised-break I c d (inl e) = normalised-kept I c d ∙ rw e refl
normalised-break I c d (inr e) = normalised-kept I c d ∙ rw e refl

pub advance-break : (I : Input) (c : ℕ) → drops_first I c ≡ false → (c ≡ carriage_return) ⊎ (c ≡ line_feed)
    → record { line = min (I.line + 1) last_line; after_carriage_return = c == carriage_return; drops_byte_order_mark = false } ≡ input_after I (c ∷ [])
advance-break I c d b = rw (input_after-reads I c (line_feed ∷ []) (normalised-break I c d b), line_after-one I line_feed) refl
