use Rattle.html5cleaner.proofs.TreeSteps.{adds-none}
use Rattle.html5cleaner.proofs.in_tree.write_piece.Goals as goal

pub returns-in-Comment : goal.returns-in-Comment
returns-in-Comment g c = rw c.in-Comment.is (adds-none c.args.page.now c.args.nesting.now)
