-- "Pop all the nodes .. up to, but not including, the root html element": where no other element is open nothing is popped.
use Rattle.std.proofs.Common.{◌≡◌, ◌≤◌, List, [], ◌∷◌, arith, length, refl}
use Rattle.tree_construction.specs.Page.{Open, Page, popped_to_first_in}

pub none-popped : (opened : List Open) (page : Page) → length opened ≤ 1 → popped_to_first_in opened page ≡ page
unfolding popped_to_first_in
none-popped [] page h = refl
none-popped (e ∷ []) page h = refl
none-popped (e ∷ f ∷ es) page h = absurd (omega (arith, h))
