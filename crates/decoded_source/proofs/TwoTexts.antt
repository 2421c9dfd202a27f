-- The lines of two texts, one after the other.
use Rattle.std.proofs.Common.{◌≡◌, ℕ, ◌+◌, List, [], ◌∷◌, ◌++◌, refl, arith}
use Rattle.std.specs.Prelude.{Bool, ◌==◌}
use Rattle.decoded_source.specs.Lines.{ends_in_cr, ends_line, line_ends}

pub line_ends-append : (after_cr : Bool) (xs ys : List ℕ) → line_ends after_cr (xs ++ ys) ≡ line_ends after_cr xs + line_ends (ends_in_cr after_cr xs) ys
line_ends-append after_cr [] ys = omega arith
line_ends-append after_cr (x ∷ xs) ys = omega (arith, line_ends-append (x == 0x0D) xs ys)

pub ends_in_cr-append : (after_cr : Bool) (xs ys : List ℕ) → ends_in_cr after_cr (xs ++ ys) ≡ ends_in_cr (ends_in_cr after_cr xs) ys
ends_in_cr-append after_cr [] ys = refl
ends_in_cr-append after_cr (x ∷ xs) ys = ends_in_cr-append (x == 0x0D) xs ys
