use Rattle.std.proofs.Common.{◌++◌, refl}
use Rattle.html5cleaner.specs.Kept.{piece_where}
use Rattle.html5cleaner.specs.declared.opened.Pending.TheVariants as pending
use Rattle.html5cleaner.proofs.FittingPieces.{settles-fit}
use Rattle.html5cleaner.proofs.in_tree.write_within.Goals as goal

pub returns-in_ok-write_kept-in-Stays : goal.returns-in_ok-write_kept-in-Stays
returns-in_ok-write_kept-in-Stays g c =
    settles-fit pending.Nothing c.args.page.now _ c.args.opened.now c.args.opened.now (piece_where c.args.run.now ++ piece_where c.args.tag.now) _ c.in-Stays.ensures
    c.in_ok-write_kept-in-Stays.ensures.written refl refl refl refl

pub returns-in_ok-write_kept-in-Closes : goal.returns-in_ok-write_kept-in-Closes
returns-in_ok-write_kept-in-Closes g c =
    settles-fit pending.Closes c.args.page.now _ c.args.opened.now c.args.opened.now (piece_where c.args.run.now ++ piece_where c.args.tag.now) _ c.in-Closes.ensures
    c.in_ok-write_kept-in-Closes.ensures.written refl refl refl refl
