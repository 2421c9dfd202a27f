use Rattle.std.specs.Prelude.{ℕ, false, List, ◌∷◌, map}
use Rattle.std.specs.Str.{IsUtf8}
use Rattle.std.proofs.Common.{◌≡◌, length}
use Rattle.tree_construction.specs.Construction.{is_ignored_newline, run}
use Rattle.tree_construction.specs.Tokens.Token.{Character}
use Rattle.tree_builder.specs.Built.{on_parser}
use Rattle.tree_builder.proofs.builder.Builder.take_text.Given as goal

abbrev pub invariant-loop-run : goal.invariant-loop-run
invariant-loop-run g l =
    IsUtf8 l.rest
    × (((c : ℕ) (more : List ℕ) → l.rest ≡ c ∷ more → is_ignored_newline l.self.parser.ignores_newline (Character c) ≡ false)
    × (on_parser (run (map (λ c. Character c) l.rest)) l.self ≡ on_parser (run (map (λ c. Character c) l.text)) l.fn.self))

abbrev pub decreases-loop-run : goal.decreases-loop-run
decreases-loop-run g l = length l.rest
