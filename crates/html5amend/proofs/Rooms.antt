-- The room for elements that wait changes nothing of what is written.
use Rattle.std.proofs.Common.{◌≡◌, List, [], ◌∷◌, refl, ap}
use Rattle.html5splice.specs.Cuts.{CutOf}
use Rattle.html5splice.specs.Edits.{parts, spliced}
use Rattle.html5amend.specs.Amending.{amending, amending_edits}
use Rattle.html5amend.specs.Places.{Amending, amending_with_room}

pub parts-with_room : (s : Amending) (cuts : List CutOf) → parts amending_with_room s cuts ≡ parts (amending s.amends) s.waiting.elements cuts
unfolding parts
parts-with_room s [] = refl
parts-with_room s (cut ∷ cuts) =
    ap (λ l. spliced (amending_edits s.amends s.waiting.elements cut) cut ∷ l) (parts-with_room (amending_with_room.step s cut) cuts)
