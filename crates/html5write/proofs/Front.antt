-- How what begins with `<` comes in.
use Rattle.std.proofs.Common.{◌≡◌, ℕ, true, false, List, [], ◌∷◌, refl, ap}
use Rattle.std.specs.Prelude.{not, ◌==◌}
use Rattle.std.proofs.Math.Bool.{and-false}
use Rattle.std.proofs.lemmas.Bool.{and_parts, not-true}
use Rattle.html5reading.specs.Characters.{less_than, carriage_return}
use Rattle.html5reading.specs.NormalisedText.{normalised, without_dropped_first, with_line_feeds, input_after, ends_with_carriage_return}
use Rattle.html5reading.specs.Start.{Input}
use Rattle.html5write.specs.Told.{has_no_return}

with_line_feeds-none : (text : List ℕ) → has_no_return text ≡ true → with_line_feeds false text ≡ text
unfolding with_line_feeds
with_line_feeds-none [] h = refl
with_line_feeds-none (c ∷ text) h =
    let p = and_parts (not (c == carriage_return)) (has_no_return text) h in
    rw (not-true (c == carriage_return) p.0) (ap (λ l. c ∷ l) (with_line_feeds-none text p.1))

ends_without : (text : List ℕ) → has_no_return text ≡ true → ends_with_carriage_return false text ≡ false
unfolding ends_with_carriage_return
ends_without [] h = refl
ends_without (c ∷ text) h =
    let p = and_parts (not (c == carriage_return)) (has_no_return text) h in
    rw (not-true (c == carriage_return) p.0) (ends_without text p.1)

-- such a text without CR is unchanged
pub normalised-markup : (input : Input) (text : List ℕ) → input.after_carriage_return ≡ false → has_no_return text ≡ true
    → normalised input (less_than ∷ text) ≡ less_than ∷ text
unfolding normalised without_dropped_first
normalised-markup input text h none = rw (h, and-false input.drops_byte_order_mark) (with_line_feeds-none (less_than ∷ text) none)

pub no_break-markup : (input : Input) (text : List ℕ) → has_no_return text ≡ true → (input_after input (less_than ∷ text)).after_carriage_return ≡ false
unfolding input_after
no_break-markup input text none = ends_without (less_than ∷ text) none
