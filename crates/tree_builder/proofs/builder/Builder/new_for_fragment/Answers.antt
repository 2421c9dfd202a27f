use Rattle.std.proofs.Common.{ap, ◌∙◌}
use Rattle.std.proofs.lemmas.Result.{on_ok_weaker}
use Rattle.tree_construction.specs.Construction.{start, start_fragment}
use Rattle.tree_builder.specs.Built.{context_of}
use Rattle.tree_builder.proofs.builder.Builder.new_for_fragment.Goals as goal

pub returns-clause-parser : goal.returns-clause-parser
unfolding start
returns-clause-parser g c = λ next.
    on_ok_weaker c.begin_fragment-begun.result
    (λ e. ap (λ b. b.parser) e ∙ ap (start_fragment (context_of c.args.context)) (c.empty-builder.ensures.parser next))
    c.begin_fragment-begun.ensures
