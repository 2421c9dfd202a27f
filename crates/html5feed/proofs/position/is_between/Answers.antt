use Rattle.std.proofs.Common.{◌∙◌, refl}
use Rattle.html5feed.proofs.CharacterReading.{section-between}
use Rattle.html5feed.proofs.position.is_between.Goals as goal

pub returns-in-CdataSection : goal.returns-in-CdataSection
returns-in-CdataSection c = rw c.in-CdataSection.is (c.is_empty.ensures ∙ section-between c.args.held.now c.utf8.held _ refl)
