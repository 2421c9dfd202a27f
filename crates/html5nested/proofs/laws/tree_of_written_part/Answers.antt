use Rattle.std.proofs.Common.{ap, ◌∙◌, subst, sym}
use Rattle.html5tree.specs.Construction.{run, tree_in}
use Rattle.html5tree.specs.Hosts.{IsBack}
use Rattle.html5tree.specs.Items.{without_newlines}
use Rattle.html5nested.specs.PageItems.{items_of}
use Rattle.html5nested.proofs.SameItems.{same-part}
use Rattle.html5nested.proofs.laws.tree_of_written_part.Goals as goal

pub returns-clause-items : goal.returns-clause-items
returns-clause-items c = same-part

pub returns-clause-in_place : goal.returns-clause-in_place
returns-clause-in_place c = λ exact input pieces fresh p path host none fit balance keeps.
    ap (λ l. tree_in (run p (without_newlines fresh l))) (same-part exact input pieces)
    ∙ c.tree_of_fitting_in_host.ensures.in_place fresh p path (items_of pieces) host fit balance keeps

pub returns-clause-back : goal.returns-clause-back
returns-clause-back c = λ exact input pieces fresh p path host fit balance.
    subst (λ l. IsBack p (run p (without_newlines fresh l))) (sym (same-part exact input pieces))
    (c.tree_of_fitting_in_host.ensures.back fresh p path (items_of pieces) host fit balance)

pub returns-clause-as_read : goal.returns-clause-as_read
returns-clause-as_read c = λ exact input pieces fresh p path host fit balance.
    ap (λ l. tree_in (run p (without_newlines fresh l))) (same-part exact input pieces)
    ∙ c.tree_of_fitting_in_host.ensures.as_read fresh p path (items_of pieces) host fit balance
