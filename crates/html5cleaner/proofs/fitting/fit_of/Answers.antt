use Rattle.html5cleaner.specs.Kept.{piece_where}
use Rattle.html5cleaner.proofs.FittingPieces.{fit-both}
use Rattle.html5cleaner.proofs.fitting.fit_of.Goals as goal

pub returns-then-run_fits : goal.returns-then-run_fits
returns-then-run_fits g c =
    fit-both c.fit_of_tag.result c.args.nesting.now (piece_where c.args.run.now) (piece_where c.args.tag.now) (c.run_fits.ensures c.if-run_fits.true) c.fit_of_tag.ensures
