use Rattle.std.proofs.Common.{[], false, ap, ◌∙◌}
use Rattle.html5tree.specs.Fitting.{all_fit}
use Rattle.html5tree.specs.Items.{read_items}
use Rattle.html5tree.specs.Normal.{stays_within}
use Rattle.html5tree.specs.Tree.{nesting}
use Rattle.html5nested.proofs.laws.tree_of_nested_page.Goals as goal

pub returns-clause-fits : goal.returns-clause-fits
returns-clause-fits g c = λ limit pieces items finished. ap (all_fit []) finished.made ∙ c.normal_items.ensures.fits limit items

pub returns-clause-within : goal.returns-clause-within
returns-clause-within g c = λ limit pieces items finished. ap (stays_within limit []) finished.made ∙ c.normal_items.ensures.within limit items

pub returns-clause-tree : goal.returns-clause-tree
returns-clause-tree g c = λ rules K s limit pieces items back finished.
    c.tree_of_written_page.ensures.tree rules K s pieces back finished.no_comment (ap (all_fit []) finished.made ∙ c.normal_items.ensures.fits limit items)
    ∙ ap (λ l. nesting (read_items false l)) finished.made
