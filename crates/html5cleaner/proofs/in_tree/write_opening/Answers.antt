use Rattle.std.proofs.Common.{[], ◌++◌, drop, ap, ◌∙◌}
use Rattle.html5tree.specs.Nested.{Nested}
use Rattle.html5cleaner.specs.Kept.{piece_where}
use Rattle.html5cleaner.specs.declared.opened.Pending.TheVariants as pending
use Rattle.html5cleaner.proofs.FittingPieces.{settles-fit}
use Rattle.html5cleaner.proofs.in_tree.write_opening.Goals as goal

pub returns-in-Ok : goal.returns-in-Ok
returns-in-Ok g c =
    let begun = c.in_ok-open.ensures.ok in
    settles-fit pending.Opened c.args.page.now c.write_kept.new.page c.args.opened.now _ (piece_where c.args.run.now ++ piece_where c.args.tag.now) _ c.requires.0
    c.in-Ok.ensures.written
    (ap (λ (n : Nested). drop 1 n.opened) begun)
    (ap (λ (n : Nested). n.opened) begun)
    (ap (λ (n : Nested). n.limit) begun)
    (ap (λ (n : Nested). n.limit) begun)

pub returns-in-Err : goal.returns-in-Err
returns-in-Err g c =
    let begun = c.in_ok-open.ensures.ok in
    record {
      written = tt;
      taken_back = tt;
      done = tt;
      unchanged = c.in-Err.ensures.unchanged;
      unopened = ap (λ (n : Nested). n.opened) c.close_one.ensures.opened ∙ (ap (λ (n : Nested). drop 1 n.opened) begun);
      limit_undone = tt;
      limit_done = tt;
      limit_unopened = ap (λ (n : Nested). n.limit) c.close_one.ensures.opened ∙ ap (λ (n : Nested). n.limit) begun;
    }
