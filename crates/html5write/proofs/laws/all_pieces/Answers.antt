use Rattle.html5write.proofs.Pages.{pieces-told}
use Rattle.html5write.proofs.laws.all_pieces.Goals as goal

pub returns : goal.returns
returns g c = λ rules K s pieces back. pieces-told g.S.TokenSink.means rules K s pieces back.table back.starts back.can back.keeps
