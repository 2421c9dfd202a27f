-- The state of a splicer that amends: vocabulary of proofs.
use Rattle.std.specs.Prelude.{[]}
use Rattle.html5amend.specs.Amending.{Amends}
use Rattle.html5amend.specs.Places.{Amending}
use Rattle.html5amend.specs.declared.amending.Amending.{Amending as RustAmending}

abbrev pub amending_of : {M Z : Type 0} → (M → Amends) → RustAmending M Z → Amending
amending_of means s = record { amends = means s.amender; waiting = s.waiting }

-- where a page begins
abbrev pub start_of_amending : Amends → Amending
start_of_amending amends = record { amends = amends; waiting = record { elements = []; places = 0 } }
