use Rattle.std.proofs.Common.{map}
use Rattle.html5tree.specs.Items.Item.{StartTag}
use Rattle.html5nested.specs.Adding.{attribute_said}
use Rattle.html5cleaner.proofs.TreeSteps.{adds-item, start-items}
use Rattle.html5cleaner.proofs.in_tree.write_start_tag.Goals as goal

pub returns : goal.returns
returns g c =
    adds-item c.write_fitted.result c.args.page.now c.write_fitted.new.page c.args.nesting.now c.write_fitted.new.nesting
    (StartTag c.args.name.now (map attribute_said c.args.attributes.now)) _ (start-items c.args.name.now c.args.attributes.now c.bytes.ensures) c.write_fitted.ensures
