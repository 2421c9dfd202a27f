use Rattle.std.proofs.Common.{ap, ◌∙◌}
use Rattle.html5tree.specs.ElementNames.{name_of}
use Rattle.html5tree.specs.Fitting.{fits}
use Rattle.html5tree.specs.Items.Item.{StartTag}
use Rattle.html5tree.specs.Searches.{names_open}
use Rattle.html5tree.proofs.nesting.Nesting.start_fits.Goals as goal

pub returns : goal.returns
returns g c =
    λ attributes.
    c.start_fits.ensures attributes ∙ (ap (λ xs. fits (names_open xs) (StartTag (name_of c.args.name) attributes)) c.deref.ensures.value
    ∙ ap (λ v. fits v.opened (StartTag (name_of c.args.name) attributes)) c.self.view_is)
