use Rattle.html5rewrite.proofs.Replies.{read_back-plain}
use Rattle.html5rewrite.proofs.laws.rewritten_page.Goals as goal

pub returns : goal.returns
returns g c = λ rules K s pieces back. c.whole_text.ensures.tokens rules K s pieces (read_back-plain rules K (g.S.TokenSink.means).reply pieces back)
