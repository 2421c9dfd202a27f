use Rattle.std.proofs.Common.{sym, ◌∙◌}
use Rattle.html5cleaner.proofs.FittingPieces.{first-text}
use Rattle.html5cleaner.proofs.fitting.text_fits.Goals as goal

pub returns : goal.returns
returns g c = λ fits. first-text c.args.nesting.now c.args.text.now c.utf8.text (sym c.text_fits.ensures ∙ fits) c.depth-open.ensures.ready.short
