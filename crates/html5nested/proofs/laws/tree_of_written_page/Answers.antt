use Rattle.std.proofs.Common.{[], ◌∷◌, false, refl, ap, ◌∙◌}
use Rattle.html5ever_interface.specs.Token.Told.{End}
use Rattle.html5tree.specs.Construction.{run, tree_in}
use Rattle.html5tree.specs.Items.{whole_texts, without_newlines}
use Rattle.html5tree.specs.Parser.{start_parser}
use Rattle.html5nested.specs.PageItems.{items_of, items_told}
use Rattle.html5nested.proofs.SameItems.{same-items}
use Rattle.html5nested.proofs.laws.tree_of_written_page.Goals as goal

pub returns-clause-items : goal.returns-clause-items
unfolding items_told
returns-clause-items g c = λ rules K s pieces back.
    ap (λ l. whole_texts (items_told l)) (c.whole_text.ensures.tokens rules K s pieces back) ∙ same-items pieces (End ∷ []) refl

pub returns-clause-tree : goal.returns-clause-tree
unfolding items_told
returns-clause-tree g c = λ rules K s pieces back none fit.
    ap (λ l. tree_in (run start_parser (without_newlines false l)))
    (ap (λ l. whole_texts (items_told l)) (c.whole_text.ensures.tokens rules K s pieces back) ∙ same-items pieces (End ∷ []) refl)
    ∙ c.tree_of_fitting.ensures.without_newlines (items_of pieces) fit
