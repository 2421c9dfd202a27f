-- The tokens that were seen are those that were handed on.
use Rattle.std.proofs.Common.{◌≡◌, List, [], ◌∷◌, ◌++◌, map, sym, ◌∙◌, append-nil, append_assoc}
use Rattle.html5check.specs.Seen.{Seen, seen_of, with_seen}
use Rattle.html5places.specs.Marks.{Placed}
use Rattle.html5places.specs.Placed.{handed_on}

pub all-seen : (seen : List Seen) (placed : List Placed) → handed_on with_seen seen placed ≡ seen ++ map seen_of placed
unfolding handed_on
all-seen seen [] = sym (append-nil seen)
all-seen seen (p ∷ placed) = all-seen (with_seen seen p) placed ∙ append_assoc seen (seen_of p ∷ []) (map seen_of placed)
