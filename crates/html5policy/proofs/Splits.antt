-- The parts of a text round a byte, one after the other.
use Rattle.std.proofs.Common.{◌≡◌, ℕ, ◌+◌, ◌<◌, Bool, true, false, List, [], ◌∷◌, length, get_or, take, drop, Bor, Option, None, Some, refl, sym, ap, ◌∙◌, lit<, arith}
use Rattle.std.specs.Prelude.{◌==◌, ◌||◌, MatchOption, filter, if◌then◌else◌}
use Rattle.std.specs.Char.{char_set_contains}
use Rattle.std.specs.Str.{NoCharPasses}
use Rattle.std.specs.List.{position_or_len, slice_split}
use Rattle.std.specs.Str.Pattern.{FindsBy, FindsChar, SplitsAroundMatch, SplitsAtFirstByte}
use Rattle.std.proofs.lemmas.Bool.{eqb-true}
use Rattle.std.proofs.lemmas.Bool.Decides.{nat_tests}
use Rattle.std.proofs.lemmas.List.{get_or-take, length-drop, length-take}
use Rattle.std.proofs.lemmas.List.Splits.{slice_split_first, slice_split_none}
use Rattle.std.proofs.lemmas.List.Sums.{fails_before_first, position_or_len_is}
use Rattle.std.proofs.lemmas.Str.{NoCharPasses-byte, len_utf8_ascii}
use Rattle.html5policy.specs.Text.{is_space, is_word, lines, words}

abbrev pub SplitsAt : ℕ → List ℕ → Option (Bor (List ℕ) × Bor (List ℕ)) → Type 0
SplitsAt c text r = SplitsAtFirstByte (FindsChar c) (Some c) text r

parts-last : (c : ℕ) (text : List ℕ) → c < 128 → SplitsAt c text None → slice_split (λ b. b == c) text ≡ text ∷ []
parts-last c text ascii splits =
    let whole : position_or_len (λ b. b == c) text ≡ length text = splits ascii (λ w o f. f) in
    slice_split_none (λ b. b == c) text (λ k d within. fails_before_first (λ b. b == c) text k d (omega (arith, whole, within)))

parts-more : (c : ℕ) (text : List ℕ) (part later : Bor (List ℕ)) → c < 128 → SplitsAt c text (Some (part, later))
    → (slice_split (λ b. b == c) text ≡ part.now ∷ slice_split (λ b. b == c) later.now) × (length later.now < length text)
parts-more c text part later ascii splits =
    let facts = splits ascii (λ w o f. f) in (
      slice_split_first (λ b. b == c) text 0 facts.2 ∙ rw (facts.0, facts.1) refl,
      omega (arith, ap length facts.1, length-drop (position_or_len (λ b. b == c) text + 1) text, facts.2),
    )

-- ---- lines

pub lines-last : (text : List ℕ) → SplitsAt 10 text None → lines text ≡ text ∷ []
unfolding lines
lines-last text splits = parts-last 10 text (lit< tt) splits

pub lines-more : (text : List ℕ) (line later : Bor (List ℕ)) → SplitsAt 10 text (Some (line, later))
    → (lines text ≡ line.now ∷ lines later.now) × (length later.now < length text)
unfolding lines
lines-more text line later splits = parts-more 10 text line later (lit< tt) splits

-- ---- words

-- what `split_once` says of the first space
abbrev pub FindsSpace : List ℕ → Option (ℕ × ℕ) → Type 0
FindsSpace line r = (k : ℕ → Bool) → ((c : ℕ) → char_set_contains (32 ∷ 9 ∷ 13 ∷ []) c ≡ k c) → FindsBy k line r

abbrev pub SplitsAtSpace : List ℕ → Option (Bor (List ℕ) × Bor (List ℕ)) → Type 0
SplitsAtSpace line r = MatchOption r (FindsSpace line None) (λ x. SplitsAroundMatch FindsSpace line x.0.now x.1.now)

or-false : (b : Bool) → (b || false) ≡ b
or-false true = refl
or-false false = refl

either-order : (c d : ℕ) (same : Bool) → (c == d) ≡ same → (d == c) ≡ same
either-order c d true is = grind (arith, nat_tests)
either-order c d false is = grind (arith, nat_tests)

spaces : (c : ℕ) → char_set_contains (32 ∷ 9 ∷ 13 ∷ []) c ≡ is_space c
spaces c =
    (λ i. either-order c 32 (c == 32) refl i || (either-order c 9 (c == 9) refl i || (either-order c 13 (c == 13) refl i || false)))
    ∙ ap (λ b. (c == 32) || ((c == 9) || b)) (or-false (c == 13))

space-low : (byte : ℕ) → is_space byte ≡ true → byte < 128
space-low byte is = grind (arith, nat_tests)

no-space_where : (text : List ℕ) (k : ℕ) (space : Bool) → NoCharPasses is_space text → k < length text → is_space (get_or text k 0) ≡ space → is_space (get_or text k 0) ≡ false
no-space_where text k true none within is = NoCharPasses-byte is_space text k none within (space-low (get_or text k 0) is)
no-space_where text k false none within is = is

no-space : (text : List ℕ) (k : ℕ) → NoCharPasses is_space text → k < length text → is_space (get_or text k 0) ≡ false
no-space text k none within = no-space_where text k (is_space (get_or text k 0)) none within refl

space-last : (text : List ℕ) → SplitsAtSpace text None → slice_split is_space text ≡ text ∷ []
space-last text splits =
    let none : NoCharPasses is_space text = splits is_space spaces in
    let whole : position_or_len is_space text ≡ length text =
    position_or_len_is is_space text (length text) 0 (omega arith) (λ k h. no-space text k none h) (λ h. absurd (omega (arith, h))) in
    slice_split_none is_space text (λ k d within. fails_before_first is_space text k d (omega (arith, whole, within)))

space-more : (text : List ℕ) (part later : Bor (List ℕ)) → SplitsAtSpace text (Some (part, later))
    → (slice_split is_space text ≡ part.now ∷ slice_split is_space later.now) × (length later.now < length text)
space-more text part later splits =
    let found : FindsBy is_space text (Some (splits.0, splits.1)) = splits.2 is_space spaces in
    let low : found.1.0 < 128 = space-low found.1.0 found.1.1 in
    let one : splits.1 ≡ splits.0 + 1 = found.1.2.ends ∙ ap (λ n. splits.0 + n) (len_utf8_ascii found.1.0 low) in
    let within : splits.0 < length text = omega (arith, one, splits.7) in
    let place : position_or_len is_space text ≡ splits.0 =
    position_or_len_is is_space text splits.0 0 (omega (arith, within))
    (λ k h. ap is_space (sym (get_or-take splits.0 text k 0 h)) ∙ no-space (take splits.0 text) k found.0 (omega (arith, h, within, length-take splits.0 text)))
    (λ h. ap is_space (found.1.2.byte low) ∙ found.1.1) in (
      slice_split_first is_space text 0 (omega (arith, place, within))
          ∙ (λ i. take (place i) text ∷ slice_split is_space (drop (place i + 1) text))
          ∙ (λ i. sym splits.3 i ∷ slice_split is_space (drop (sym one i) text))
          ∙ ap (λ l. part.now ∷ slice_split is_space l) (sym splits.4),
      omega (arith, one, splits.7),
    )

word-first : (word : List ℕ) (parts : List (List ℕ)) (some : Bool) → is_word word ≡ some → filter is_word (word ∷ parts) ≡ (if some then word ∷ filter is_word parts else filter is_word parts)
word-first word parts some is = ap (λ b. if b then word ∷ filter is_word parts else filter is_word parts) is

some-word : (word : List ℕ) → (length word == 0) ≡ false → is_word word ≡ true
some-word [] some = absurd cc
some-word (byte ∷ word) some = refl

pub some-length : (word : List ℕ) → (length word == 0) ≡ false → 0 < length word
some-length [] some = absurd cc
some-length (byte ∷ word) some = omega arith

no-word : (word : List ℕ) → (length word == 0) ≡ true → is_word word ≡ false
no-word [] none = refl
no-word (byte ∷ word) none = absurd (omega (arith, eqb-true (length (byte ∷ word)) 0 none))

pub words-word : (line : List ℕ) (word later : Bor (List ℕ)) → SplitsAtSpace line (Some (word, later)) → (length word.now == 0) ≡ false
    → (words line ≡ word.now ∷ words later.now) × (length later.now < length line)
unfolding words
words-word line word later splits some =
    let parts = space-more line word later splits in
    (ap (filter is_word) parts.0 ∙ word-first word.now (slice_split is_space later.now) true (some-word word.now some), parts.1)

pub words-space : (line : List ℕ) (word later : Bor (List ℕ)) → SplitsAtSpace line (Some (word, later)) → (length word.now == 0) ≡ true
    → (words line ≡ words later.now) × (length later.now < length line)
unfolding words
words-space line word later splits none =
    let parts = space-more line word later splits in
    (ap (filter is_word) parts.0 ∙ word-first word.now (slice_split is_space later.now) false (no-word word.now none), parts.1)

pub words-last : (line : List ℕ) → SplitsAtSpace line None → (length line == 0) ≡ false → words line ≡ line ∷ words []
unfolding words
words-last line splits some = ap (filter is_word) (space-last line splits) ∙ word-first line [] true (some-word line some)

pub words-none : (line : List ℕ) → SplitsAtSpace line None → (length line == 0) ≡ true → words line ≡ []
unfolding words
words-none line splits none = ap (filter is_word) (space-last line splits) ∙ word-first line [] false (no-word line none)
