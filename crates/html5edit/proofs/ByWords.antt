-- What options say, from the last one on.
use Rattle.std.proofs.Common.{◌≡◌, ℕ, ◌+◌, ◌<◌, List, [], ◌∷◌, length, refl, ap, sym, ◌∙◌, arith}
use Rattle.std.specs.Prelude.{◌-◌, Option, None, Some, drop, map, get_or}
use Rattle.std.specs.Option.{option_and_then}
use Rattle.std.proofs.Math.ListN.{drop_of_length-le}
use Rattle.std.proofs.lemmas.List.{drop_more}
use Rattle.html5edit.specs.Asked.{changes_said, no_changes, said_after}
use Rattle.html5edit.specs.Changes.{Changes}
use Rattle.html5programs.specs.Words.{AskedOption}

-- when none was taken
pub said-none : (given : List AskedOption) (count : ℕ) → count ≡ length given → changes_said (drop (count - 0) given) ≡ Some no_changes
unfolding changes_said
said-none given count all = ap changes_said (drop_of_length-le given (omega (arith, all)))

-- one more
pub said-more : (given : List AskedOption) (count later : ℕ) (d : AskedOption) (before after : Changes) → count ≡ length given → later < count
    → changes_said (drop (count - later) given) ≡ Some before → said_after (get_or given (count - 1 - later) d) before ≡ Some after
    → changes_said (drop (count - (later + 1)) given) ≡ Some after
unfolding changes_said
said-more given count later d before after all within said now =
    let next : count - 1 - later + 1 ≡ count - later = omega (arith, within) in
    let same : count - (later + 1) ≡ count - 1 - later = omega (arith, within) in
    ap (λ n. changes_said (drop n given)) same
    ∙ ap changes_said (drop_more given (count - 1 - later) d (omega (arith, all, within)))
    ∙ ap (λ n. option_and_then (said_after (get_or given (count - 1 - later) d)) (changes_said (drop n given))) next
    ∙ ap (option_and_then (said_after (get_or given (count - 1 - later) d))) said
    ∙ now
