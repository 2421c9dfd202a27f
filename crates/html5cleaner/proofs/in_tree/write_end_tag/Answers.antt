use Rattle.std.proofs.Common.{[], ◌∷◌, ap}
use Rattle.std.proofs.lemmas.Str.{encodes-chars}
use Rattle.html5tree.specs.Items.Item.{EndTag}
use Rattle.html5cleaner.proofs.TreeSteps.{adds-item}
use Rattle.html5cleaner.proofs.in_tree.write_end_tag.Goals as goal

pub returns : goal.returns
returns g c =
    adds-item c.write_fitted.result c.args.page.now c.write_fitted.new.page c.args.nesting.now c.write_fitted.new.nesting (EndTag c.args.name.now) _
    (ap (λ l. EndTag l ∷ []) (encodes-chars c.args.name.now c.utf8.name)) c.write_fitted.ensures
