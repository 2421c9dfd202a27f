use Rattle.std.proofs.Common.{ap, sym, ◌∙◌}
use Rattle.std.proofs.lemmas.Result.{on_ok_weaker}
use Rattle.tree_names.specs.ElementNames.{name_bytes}
use Rattle.tree_builder.proofs.HtmlElements.{as-inserted, html-attributes}
use Rattle.tree_sink.specs.Places.{place_of}
use Rattle.tree_builder.proofs.builder.Builder.insert_at.Goals as goal

pub returns-then-is_html-clause-ok : goal.returns-then-is_html-clause-ok
returns-then-is_html-clause-ok g c =
    on_ok_weaker c.insert_as.result
    (λ e. e ∙ ap (λ q. record c.args.self.now { parser = q })
    (as-inserted (place_of g.S.Handle.NodeHandle.node c.args.place) c.args.kind (name_bytes c.args.name.now)
    (g.T.TagAttributes.said c.args.attributes.now) (g.T.TagAttributes.said c.args.attributes.now) c.takes_form-takes.result c.args.self.now.parser
    c.takes_form-takes.ensures (html-attributes c.args.kind (g.T.TagAttributes.said c.args.attributes.now) (sym c.is_html.ensures ∙ c.if-is_html.true))))
    c.insert_as.ensures.ok
