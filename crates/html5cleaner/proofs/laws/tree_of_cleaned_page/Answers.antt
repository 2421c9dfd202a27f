use Rattle.std.proofs.Common.{[], ap, arith}
use Rattle.html5policy.specs.Policy.{PolicyOf}
use Rattle.html5cleaner.specs.Cleaning.{kept_of_page, page_messages}
use Rattle.html5cleaner.proofs.NestedTrees.{page-fits, page-no_comment, page-within}
use Rattle.html5cleaner.proofs.Printing.{clean-handed}
use Rattle.html5cleaner.proofs.Tokens.{can-clean}
use Rattle.html5cleaner.proofs.laws.tree_of_cleaned_page.Goals as goal

pub returns-clause-fits : goal.returns-clause-fits
returns-clause-fits g c = page-fits

pub returns-clause-within : goal.returns-clause-within
returns-clause-within g c = page-within

pub returns-clause-tree : goal.returns-clause-tree
returns-clause-tree g c = λ policy references text rules K s tree sound table starts follows.
    let pieces = kept_of_page policy references text in
    let clean = clean-handed policy (page_messages references (record { policy = policy; printed = [] }) text) (λ is. sound) in
    let fit = page-fits policy references text tree in
    c.tree_of_written_page.ensures.tree rules K s pieces
    (record { table = table; starts = starts; can = can-clean policy pieces clean; keeps = c.fitting_pieces_are_markup.ensures pieces fit follows })
    (page-no_comment policy references text tree) fit
