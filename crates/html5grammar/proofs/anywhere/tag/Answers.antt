use Rattle.html5grammar.proofs.Tag.Parts.{tag-by_itself}
use Rattle.html5grammar.proofs.anywhere.tag.Goals as goal

pub returns : goal.returns
returns g c = λ rules K s Y tag table one.
    tag-by_itself g.S.TokenSink.means rules K s Y tag table one
