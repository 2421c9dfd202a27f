-- That of nothing nothing is printed.
use Rattle.std.specs.Prelude.{◌≡◌, ℕ, List, [], refl}
use Rattle.html5check.specs.Lines.{lines_of}

pub no_lines : (file : List ℕ) → lines_of file [] ≡ []
unfolding lines_of
no_lines file = refl
