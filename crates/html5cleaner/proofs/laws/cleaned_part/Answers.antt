use Rattle.html5cleaner.proofs.Tokens.{read_back-clean}
use Rattle.html5cleaner.proofs.laws.cleaned_part.Goals as goal

pub returns : goal.returns
returns g c = λ policy rules K s pieces back. c.all_pieces.ensures rules K s pieces (read_back-clean policy rules K (g.S.TokenSink.means).reply pieces back)
