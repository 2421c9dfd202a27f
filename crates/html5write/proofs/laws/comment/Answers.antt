use Rattle.html5write.proofs.Comments.{comment-told}
use Rattle.html5write.proofs.laws.comment.Goals as goal

pub returns : goal.returns
returns g c = λ rules K s text here can. comment-told g.S.TokenSink.means rules K s text here can
