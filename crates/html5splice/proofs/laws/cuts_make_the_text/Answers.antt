use Rattle.html5splice.proofs.WholeTexts.{text-of_cuts}
use Rattle.html5splice.proofs.laws.cuts_make_the_text.Goals as goal

pub returns : goal.returns
returns c = text-of_cuts
