use Rattle.html5rewrite.proofs.Replies.{keeps_on-page}
use Rattle.html5rewrite.proofs.laws.plain_pieces_are_markup.Goals as goal

pub returns : goal.returns
returns g c = λ pieces plain follows. keeps_on-page (g.S.TokenSink.means).reply follows pieces plain
