use Rattle.std.proofs.Common.{[], ◌∷◌, ap}
use Rattle.std.proofs.lemmas.Str.{encodes-chars}
use Rattle.html5tree.specs.Items.Item.{Text}
use Rattle.html5cleaner.proofs.TreeSteps.{adds-item}
use Rattle.html5cleaner.proofs.in_tree.write_text.Goals as goal

pub returns : goal.returns
returns g c =
    adds-item c.write_fitted.result c.args.page.now c.write_fitted.new.page c.args.nesting.now c.write_fitted.new.nesting (Text c.args.text.now) _
    (ap (λ l. Text l ∷ []) (encodes-chars c.args.text.now c.utf8.text)) c.write_fitted.ensures
