use Rattle.tree_sink.proofs.Texts.{told_after}
use Rattle.tree_sink.proofs.editor.Editor.put_whole_text.Goals as goal

pub invariant_of-self-2 : goal.invariant_of-self-2
invariant_of-self-2 g c = told_after g.S.TreeSink.means _ _ _ _ _ _ _ c.self.invariant c.in-Ok.ensures.steps c.note.ensures
