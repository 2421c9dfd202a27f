use Rattle.std.proofs.Common.{◌++◌, false, refl}
use Rattle.html5cleaner.specs.Shape.Shape.{Tree}
use Rattle.html5cleaner.proofs.TreeSteps.{settles-same}
use Rattle.html5cleaner.proofs.in_tree.keep_tag_with.Goals as goal

pub returns : goal.returns
returns g c =
    settles-same (Tree c.args.opened.now.tree.limit) c.write_within.result c.args.page.now c.write_within.new.page c.args.opened.now c.write_within.new.opened false false
    c.args.opened.now.tree.opened _ _ refl ((λ i. c.kept_run-run.ensures i ++ c.kept_tag-tag.ensures i)) c.write_within.ensures
