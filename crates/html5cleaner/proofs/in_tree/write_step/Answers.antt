use Rattle.html5cleaner.specs.Kept.{piece_where}
use Rattle.html5cleaner.proofs.TreeSteps.{step-ends, step-goes_on}
use Rattle.html5cleaner.proofs.in_tree.write_step.Goals as goal

pub returns-then-ends : goal.returns-then-ends
returns-then-ends g c =
    step-ends c.close_all.result c.args.page.now c.write_where.new.page c.write_where-2.new.page c.close_all.new.page c.args.nesting.now c.write_where.new.nesting
    c.write_where-2.new.nesting c.close_all.new.nesting c.args.ends (piece_where c.args.run.now) (piece_where c.args.tag.now) c.if-ends.true c.depth-ready.ensures.ready
    c.in_ok-write_where.ensures c.in_ok-write_where-2.ensures c.close_all.ensures.added c.close_all.ensures.opened c.close_all.ensures.limit

pub returns : goal.returns
returns g c =
    step-goes_on c.args.page.now c.write_where.new.page c.write_where-2.new.page c.args.nesting.now c.write_where.new.nesting c.write_where-2.new.nesting c.args.ends
    (piece_where c.args.run.now) (piece_where c.args.tag.now) c.if-ends.false c.depth-ready.ensures.ready c.in_ok-write_where.ensures c.in_ok-write_where-2.ensures
