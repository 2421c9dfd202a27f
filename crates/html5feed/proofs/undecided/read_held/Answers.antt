use Rattle.std.proofs.Common.{rules}
use Rattle.html5partial.proofs.Decided.{undecided-keyword}
use Rattle.html5feed.proofs.undecided.read_held.Goals as goal

pub read_keyword-requires : goal.read_keyword-requires
read_keyword-requires g c =
    rw (← c.position.view_is) (undecided-keyword c.position.inside.in_reference c.position.inside.held c.position.inside.opened.state c.position.inside.opened c.if-position.false (rw (← c.position.view_is) at c.requires))

pub returns : goal.returns
returns g c =
    rw (← c.rules.view_is)
    (let read = c.read_keyword.ensures.reads c.rules.inside.references.now in
    let kept = c.read_keyword.ensures.kept.sink in
    search rules)
