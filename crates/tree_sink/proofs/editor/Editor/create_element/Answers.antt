use Rattle.tree_construction.specs.Page.Edit.{MakeElement}
use Rattle.tree_sink.proofs.Texts.{told_made}
use Rattle.tree_sink.proofs.editor.Editor.create_element.Goals as goal

pub invariant_of-self-2 : goal.invariant_of-self-2
invariant_of-self-2 g c =
    told_made g.S.TreeSink.means _ _ _ _ _ (λ n. MakeElement n c.args.namespace c.args.name.now (g.T.TagAttributes.said c.args.attributes.now)) _ _ _ c.self.invariant
    c.in-Ok.ensures.names c.in-Ok.ensures.steps c.note.ensures
