use Rattle.std.proofs.Common.{[], ap, ◌∙◌}
use Rattle.std.proofs.lemmas.Result.{on_ok_weaker}
use Rattle.tree_construction.specs.Parser.{inserted_at}
use Rattle.tree_names.specs.ElementNames.{name_of}
use Rattle.tree_builder.proofs.HtmlElements.{html-inserted}
use Rattle.tree_builder.specs.Built.{inserted_as}
use Rattle.tree_sink.specs.Places.{place_of}
use Rattle.tree_builder.proofs.builder.Builder.insert_bare_at.Goals as goal

pub returns-clause-ok : goal.returns-clause-ok
returns-clause-ok g c =
    on_ok_weaker c.insert_bare_as.result
    (λ e. e ∙ ap (λ q. record c.args.self.now { parser = q })
    (ap (λ takes. inserted_as (place_of g.S.Handle.NodeHandle.node c.args.place) c.html_kind-kind.result (name_of c.args.name) [] takes c.args.self.now.parser)
    c.takes_form_bare-takes.ensures
    ∙ (html-inserted (place_of g.S.Handle.NodeHandle.node c.args.place) c.html_kind-kind.result (name_of c.args.name) [] c.args.self.now.parser
    c.html_kind-kind.ensures.html
    ∙ ap (λ kind. inserted_at (place_of g.S.Handle.NodeHandle.node c.args.place) kind (name_of c.args.name) [] c.args.self.now.parser)
    c.html_kind-kind.ensures.kind)))
    c.insert_bare_as.ensures.ok
