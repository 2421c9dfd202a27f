use Rattle.html5rewrite.proofs.Replies.{read_back-plain}
use Rattle.html5rewrite.proofs.laws.rewritten_part.Goals as goal

pub returns : goal.returns
returns g c = λ rules K s pieces back. c.all_pieces.ensures rules K s pieces (read_back-plain rules K (g.S.TokenSink.means).reply pieces back)
