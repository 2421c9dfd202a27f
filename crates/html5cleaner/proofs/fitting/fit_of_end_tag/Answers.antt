use Rattle.std.proofs.Common.{ap, sym, ◌∙◌}
use Rattle.html5tree.specs.Fitting.{fits}
use Rattle.html5tree.specs.Items.Item.{EndTag}
use Rattle.html5cleaner.proofs.FittingPieces.{end-closes}
use Rattle.html5cleaner.proofs.fitting.fit_of_end_tag.Goals as goal

pub returns : goal.returns
returns g c =
    let nested = c.args.nesting.now in
    end-closes nested c.args.name.now c.utf8.name
    (ap (λ n. fits nested.opened (EndTag n)) (sym c.in-Some.ensures.found) ∙ (sym c.end_fits.ensures ∙ c.if-not-end_fits.false))
    c.depth-open.ensures.ready.short
