use Rattle.html5cleaner.proofs.Replies.{keeps_on-page}
use Rattle.html5cleaner.proofs.laws.clean_pieces_are_markup.Goals as goal

pub returns : goal.returns
returns g c = λ policy pieces sound clean follows. keeps_on-page policy sound (g.S.TokenSink.means).reply follows pieces clean
