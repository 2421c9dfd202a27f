use Rattle.std.proofs.Common.{subst}
use Rattle.html5tree.specs.Normal.{end_tags}
use Rattle.html5nested.specs.Adding.{Adds}
use Rattle.html5nested.specs.NestedPages.{NestedPage}
use Rattle.html5nested.proofs.Nesting.{made-all}
use Rattle.html5nested.proofs.nested_writer.NestedWriter.finish.Goals as goal

pub returns-clause-made : goal.returns-clause-made
returns-clause-made g c = λ items made.
    made-all c.args.self c.close_all.new.page items
    (subst (λ (p : NestedPage). Adds p.pieces c.close_all.new.page (end_tags p.opened)) c.self.view_is c.in_ok-close_all.ensures.added)
    made
