use Rattle.std.proofs.Common.{◌≡◌, ℕ, List, [], ap, ◌∙◌}
use Rattle.std.proofs.lemmas.Result.{on_ok_weaker, on_err_weaker}
use Rattle.html5splice.specs.Pages.{page_cuts, page_parts}
use Rattle.html5amend.specs.Amending.{Amends, amending}
use Rattle.html5amend.specs.Places.{Amending, amending_with_room}
use Rattle.html5amend.specs.State.{start_of_amending}
use Rattle.html5amend.proofs.Rooms.{parts-with_room}
use Rattle.html5amend.proofs.Written.{reads-as, stops-as}
use Rattle.html5amend.proofs.page.amend_page.Goals as goal
use Rattle.markup5ever.specs.NamedReferences.{NamedReference}

-- from where a page begins, the room says nothing
page-with_room : (amends : Amends) (s : Amending) → s ≡ start_of_amending amends → (references : List NamedReference) (bytes : List ℕ)
    → page_parts amending_with_room references s bytes ≡ page_parts (amending amends) references [] bytes
page-with_room amends s at references bytes =
    ap (λ t. page_parts amending_with_room references t bytes) at ∙ parts-with_room (start_of_amending amends) (page_cuts references bytes)

pub returns-clause-finishes : goal.returns-clause-finishes
returns-clause-finishes g c =
    on_ok_weaker c.splice_page.result.1
    (reads-as _ _ (page-with_room _ _ c.new-amending.ensures c.args.references.now) _)
    c.splice_page.ensures.finishes

pub returns-clause-beginning : goal.returns-clause-beginning
returns-clause-beginning g c =
    on_err_weaker c.splice_page.result.1
    (stops-as _ _ (page-with_room _ _ c.new-amending.ensures c.args.references.now) _)
    c.splice_page.ensures.beginning
