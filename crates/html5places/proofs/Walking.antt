-- Lines and columns, character after character.
use Rattle.std.proofs.Common.{◌≡◌, ℕ, Bool, true, false, ◌&&◌, List, [], ◌∷◌, refl, subst, sym}
use Rattle.std.specs.Prelude.{◌==◌, if◌then◌else◌}
use Rattle.std.proofs.lemmas.Bool.{eqb-true, true≢false}
use Rattle.html5reading.specs.Characters.{carriage_return, line_feed}
use Rattle.html5reading.specs.NormalisedText.{with_line_feeds}
use Rattle.html5places.specs.declared.positions.Position.{Position}
use Rattle.html5places.specs.Positions.{past_character, past_characters, walked}

cr_is_no_lf : (after_cr : Bool) (c : ℕ) → (c == carriage_return) ≡ true → (after_cr && (c == line_feed)) ≡ false
cr_is_no_lf true c is = subst (λ n. (n == line_feed) ≡ false) (sym (eqb-true c carriage_return is)) refl
cr_is_no_lf false c is = refl

by_cases : (p : Position) (c : ℕ) (rest : List ℕ) (is_cr dropped : Bool) → (is_cr ≡ true → dropped ≡ false)
    → past_characters (if dropped then p else (past_character p (if is_cr then line_feed else c))) (with_line_feeds is_cr rest)
    ≡ past_characters p (if is_cr then (line_feed ∷ with_line_feeds true rest) else (if dropped then (with_line_feeds false rest) else (c ∷ with_line_feeds false rest)))
unfolding past_characters
by_cases p c rest true true apart = absurd (true≢false (apart refl))
by_cases p c rest true false apart = refl
by_cases p c rest false true apart = refl
by_cases p c rest false false apart = refl

pub walk-more : (p : Position) (after_cr : Bool) (c : ℕ) (rest : List ℕ)
    → past_characters (walked p after_cr c) (with_line_feeds (c == carriage_return) rest) ≡ past_characters p (with_line_feeds after_cr (c ∷ rest))
unfolding with_line_feeds
walk-more p after_cr c rest = by_cases p c rest (c == carriage_return) (after_cr && (c == line_feed)) (cr_is_no_lf after_cr c)

pub walk-none : (p : Position) (after_cr : Bool) → past_characters p (with_line_feeds after_cr []) ≡ p
unfolding with_line_feeds past_characters
walk-none p after_cr = refl
