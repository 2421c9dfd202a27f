-- How a run comes in: as it stands, and its line feeds move the line. They are counted by its bytes.
use Rattle.std.proofs.Common.{◌≡◌, ◌≢◌, ℕ, ◌+◌, ◌<◌, ◌^◌, Bool, false, cond, List, [], ◌∷◌, refl, sym, ap, ◌∙◌, inl, inr, arith}
use Rattle.std.specs.Prelude.{All, ◌==◌, count_by, encode_utf8, encode_utf8_all}
use Rattle.std.specs.Str.{IsUtf8, chars}
use Rattle.std.proofs.lemmas.Bool.{cases_eq, ne_eqb}
use Rattle.std.proofs.lemmas.List.{append-nil}
use Rattle.std.proofs.lemmas.List.Elements.{All-head, All-tail, All-from_get_or}
use Rattle.std.proofs.lemmas.List.Sums.{sum_by-append, sum_by-cons}
use Rattle.std.proofs.lemmas.Str.{encode_ascii, encodes-chars, inside_one}
use Rattle.html5reading.specs.Characters.{line_feed, carriage_return}
use Rattle.html5reading.specs.NormalisedText.{with_line_feeds, without_dropped_first, normalised, line_after, input_after, ends_with_carriage_return}
use Rattle.html5reading.specs.Start.{Input}
use Rattle.html5reading.proofs.InputLemmas.{lines_past, line_after-none, line_after-lines_past}

with_line_feeds-run : (run : List ℕ) → All (λ c. c ≢ carriage_return) run → with_line_feeds false run ≡ run
unfolding with_line_feeds
with_line_feeds-run [] all = refl
with_line_feeds-run (c ∷ run) all =
    rw (ne_eqb c carriage_return (All-head (λ d. d ≢ carriage_return) c run all))
    (ap (λ l. c ∷ l) (with_line_feeds-run run (All-tail (λ d. d ≢ carriage_return) c run all)))

-- such characters come in as they are, when none is dropped
pub normalised-run : (I : Input) (run : List ℕ) → I.after_carriage_return ≡ false → I.drops_byte_order_mark ≡ false → All (λ c. c ≢ carriage_return) run
    → normalised I run ≡ run
unfolding normalised without_dropped_first
normalised-run I [] line_break start all = with_line_feeds-run [] all
normalised-run I (c ∷ run) line_break start all = rw (line_break, start) (with_line_feeds-run (c ∷ run) all)

ends-run : (b : Bool) (run : List ℕ) → b ≡ false → All (λ c. c ≢ carriage_return) run → ends_with_carriage_return b run ≡ false
unfolding ends_with_carriage_return
ends-run b [] e all = e
ends-run b (c ∷ run) e all =
    ends-run (c == carriage_return) run (ne_eqb c carriage_return (All-head (λ d. d ≢ carriage_return) c run all)) (All-tail (λ d. d ≢ carriage_return) c run all)

-- they move the line alone
pub input_after-run : (I : Input) (run : List ℕ) → I.after_carriage_return ≡ false → I.drops_byte_order_mark ≡ false → All (λ c. c ≢ carriage_return) run → I.line < 2 ^ 64
    → input_after I run ≡ record I { line = line_after I run }
unfolding input_after
input_after-run I [] line_break start all h = rw (line_after-none I h) refl
input_after-run I (c ∷ run) line_break start all h =
    rw (normalised-run I (c ∷ run) line_break start all, ends-run false (c ∷ run) refl all, line_break, start) refl

-- by their line feeds
pub line-run : (I : Input) (run : List ℕ) → I.after_carriage_return ≡ false → I.drops_byte_order_mark ≡ false → All (λ c. c ≢ carriage_return) run → I.line < 2 ^ 64
    → (input_after I run).line ≡ lines_past I.line run
line-run I run line_break start all h =
    ap (λ (J : Input). J.line) (input_after-run I run line_break start all h)
    ∙ line_after-lines_past I [] run
    ∙ ap (λ line. lines_past line run) (line_after-none I h)

-- ---- the line feeds of a text are those of its bytes

abbrev line_feeds : List ℕ → ℕ
line_feeds cs = count_by (λ c. c == line_feed) cs

none-found : (cs : List ℕ) → All (λ c. c ≢ line_feed) cs → line_feeds cs ≡ 0
none-found [] none = refl
none-found (c ∷ cs) none =
    sum_by-cons (λ (d : ℕ). cond (d == line_feed) 1 0) c cs
    ∙ rw (ne_eqb c line_feed (All-head (λ d. d ≢ line_feed) c cs none)) (ap (λ (n : ℕ). 0 + n) (none-found cs (All-tail (λ d. d ≢ line_feed) c cs none)))

-- only a line feed has its byte
of-character : (c : ℕ) → line_feeds (encode_utf8 c) ≡ cond (c == line_feed) 1 0
of-character c =
    elim (cases_eq c line_feed) [
      | inl same ↦ rw same (ap line_feeds (encode_ascii line_feed (omega arith)))
      | inr other ↦
          rw (ne_eqb c line_feed other)
          (none-found (encode_utf8 c) (All-from_get_or (λ b. b ≢ line_feed) (encode_utf8 c) 0 (λ k within is.
          other (inside_one c [] (encode_utf8 c) k (sym (append-nil (encode_utf8 c))) within (rw is (omega arith)) ∙ is))))
    ]

of-characters : (cs : List ℕ) → line_feeds (encode_utf8_all cs) ≡ line_feeds cs
of-characters [] = refl
of-characters (c ∷ cs) =
    sum_by-append (λ (d : ℕ). cond (d == line_feed) 1 0) (encode_utf8 c) (encode_utf8_all cs)
    ∙ rw (of-character c, of-characters cs) (sym (sum_by-cons (λ (d : ℕ). cond (d == line_feed) 1 0) c cs))

pub line_feeds-bytes : (text : List ℕ) → IsUtf8 text → count_by (λ b. b == line_feed) text ≡ count_by (λ c. c == line_feed) (chars text)
line_feeds-bytes text utf8 = ap line_feeds (sym (encodes-chars text utf8)) ∙ of-characters (chars text)
