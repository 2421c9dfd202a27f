use Rattle.std.proofs.Common.{◌∙◌, ap}
use Rattle.std.specs.Option.{is_some}
use Rattle.html5table.specs.Listed.{listed}
use Rattle.html5entities.proofs.StandardList.{standard-listed}
use Rattle.html5entities.proofs.table.standard_references.Goals as goal

pub references_of-requires : goal.references_of-requires
references_of-requires g c = ap (λ list. is_some (listed list)) c.standard_list.ensures ∙ standard-listed
