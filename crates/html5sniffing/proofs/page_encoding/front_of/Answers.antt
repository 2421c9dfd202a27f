use Rattle.html5sniffing.proofs.FrontLemmas.{first-within, front-first, front-further, further-within}
use Rattle.html5sniffing.proofs.page_encoding.front_of.Goals as goal

pub returns-then-branch-clause-front : goal.returns-then-branch-clause-front
returns-then-branch-clause-front g c =
    front-further _ _ _ _ _ _ _ _ c.first_of-first.ensures c.in_ok-looks_further.ensures c.if-branch.true c.plain_len.ensures c.min.ensures

pub returns-then-branch-clause-within : goal.returns-then-branch-clause-within
returns-then-branch-clause-within g c = further-within _ _ _ c.plain_len.ensures c.min.ensures

pub returns-else-branch-clause-front : goal.returns-else-branch-clause-front
returns-else-branch-clause-front g c = front-first _ _ _ _ _ _ c.first_of-first.ensures c.in_ok-looks_further.ensures c.if-branch.false

pub returns-else-branch-clause-within : goal.returns-else-branch-clause-within
returns-else-branch-clause-within g c = first-within _ _ c.first_of-first.ensures
