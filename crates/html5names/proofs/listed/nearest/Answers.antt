use Rattle.std.proofs.Common.{ap, ◌∙◌}
use Rattle.std.specs.Borrow.{Bor}
use Rattle.std.specs.Prelude.{ℕ, List, option_map}
use Rattle.std.specs.List.{find}
use Rattle.std.specs.Option.{option_or}
use Rattle.html5names.specs.Listed.{names_of}
use Rattle.html5names.specs.Slips.{is_near, is_swap_of}
use Rattle.html5names.proofs.Searches.{find-names}
use Rattle.html5names.proofs.listed.nearest.Goals as goal

pub returns-in-Some : goal.returns-in-Some
returns-in-Some c =
    ap (λ found. option_or found (find (is_near c.args.name.now) (names_of c.args.listed.now)))
    (ap (option_map (λ (one : Bor (List ℕ)). one.now)) c.in-Some.ensures ∙ find-names (is_swap_of c.args.name.now) c.args.listed.now)

pub returns-in-None : goal.returns-in-None
returns-in-None c =
    ap (option_map (λ (one : Bor (List ℕ)). one.now)) c.first_near.ensures ∙ find-names (is_near c.args.name.now) c.args.listed.now
    ∙ ap (λ found. option_or found (find (is_near c.args.name.now) (names_of c.args.listed.now)))
    (ap (option_map (λ (one : Bor (List ℕ)). one.now)) c.in-None.ensures ∙ find-names (is_swap_of c.args.name.now) c.args.listed.now)
