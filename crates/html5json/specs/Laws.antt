-- That of nothing nothing is printed.
use Rattle.std.specs.Prelude.{◌≡◌, ℕ, Bool, List, [], refl}
use Rattle.html5json.specs.Findings.{finding_lines, results_of}

pub no_lines : (file : List ℕ) → finding_lines file [] ≡ []
unfolding finding_lines
no_lines file = refl

pub no_results : (found : Bool) (file : List ℕ) → results_of found file [] ≡ []
unfolding results_of
no_results found file = refl
