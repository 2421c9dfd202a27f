use Rattle.html5policy.proofs.Lines.{noopener-added}
use Rattle.html5policy.proofs.text.add_noopener.Goals as goal

pub returns-in-None : goal.returns-in-None
returns-in-None g c = noopener-added c.add.result _ _ _ c.in-None.ensures c.add.ensures.added c.add.ensures.fault
