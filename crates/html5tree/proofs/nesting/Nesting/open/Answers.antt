use Rattle.std.proofs.Common.{◌≡◌, [], ◌∷◌, ap, sym, ◌∙◌}
use Rattle.html5tree.proofs.Moved.{open-push}
use Rattle.html5tree.proofs.Nests.{ready-by}
use Rattle.html5tree.specs.ElementNames.{name_of}
use Rattle.html5tree.specs.Items.Item.{StartTag}
use Rattle.html5tree.specs.Searches.{names_open}
use Rattle.html5tree.proofs.nesting.Nesting.open.Goals as goal

pub invariant_of-self-2 : goal.invariant_of-self-2
invariant_of-self-2 g c =
    let opens : names_open c.push.new.self.items ≡ name_of c.args.name ∷ names_open c.self.inside.opened.items =
    ap names_open c.in_ok-push.ensures.items ∙ open-push c.self.inside.opened.items c.args.name in
    ready-by c.self.inside.limit (names_open c.self.inside.opened.items) (names_open c.push.new.self.items) (StartTag (name_of c.args.name) []) c.self.invariant
    (opens ∙ sym (rw (← c.self.view_is) at c.requires))
