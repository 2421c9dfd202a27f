use Rattle.std.proofs.Common.{ap, sym, subst, ◌∙◌}
use Rattle.html5nested.specs.PageItems.{items_of, items_of_piece}
use Rattle.html5write.specs.Writing.{piece_of}
use Rattle.html5cleaner.specs.Kept.{AddsAll, piece_where}
use Rattle.html5cleaner.proofs.TreeSteps.{adds-none, adds-same, items-alone, items-none}
use Rattle.html5cleaner.proofs.in_tree.write_where.Goals as goal

pub returns-in-Some : goal.returns-in-Some
returns-in-Some g c =
    adds-same c.write_piece.result c.args.page.now c.write_piece.new.page c.args.nesting.now c.write_piece.new.nesting _ _
    (ap (λ p. items_of_piece (piece_of p)) c.piece.ensures.same
    ∙ sym (ap (λ p. items_of (piece_where p)) c.in-Some.is ∙ items-alone (piece_of c.in-Some.piece))) c.write_piece.ensures

pub returns-in-None : goal.returns-in-None
returns-in-None g c =
    subst (λ l. AddsAll c.args.page.now c.args.page.now c.args.nesting.now c.args.nesting.now l) (sym (ap (λ p. items_of (piece_where p)) c.in-None.is ∙ items-none))
    (adds-none c.args.page.now c.args.nesting.now)
