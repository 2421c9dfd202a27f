-- Spaces that are written level after level.
use Rattle.std.proofs.Common.{◌≡◌, ℕ, zero, suc, ◌+◌, [], ◌++◌, refl, ap, ◌∙◌, arith}
use Rattle.std.specs.Prelude.{codes}
use Rattle.tree_lines.specs.Lines.{spaces}

pub no_spaces : spaces 0 ≡ []
unfolding spaces
no_spaces = refl

next_spaces : (depth : ℕ) → spaces (suc depth) ≡ spaces depth ++ codes "  "
unfolding spaces
next_spaces zero = refl
next_spaces (suc depth) = ap (λ l. codes "  " ++ l) (next_spaces depth)

pub more_spaces : (depth : ℕ) → spaces (depth + 1) ≡ spaces depth ++ codes "  "
more_spaces depth =
    let e : depth + 1 ≡ suc depth = omega arith in
    ap spaces e ∙ next_spaces depth
