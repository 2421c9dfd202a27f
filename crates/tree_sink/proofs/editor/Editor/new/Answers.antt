use Rattle.tree_sink.proofs.Texts.{told_first}
use Rattle.tree_sink.proofs.editor.Editor.new.Goals as goal

pub invariant_of-result : goal.invariant_of-result
invariant_of-result g c = told_first g.S.TreeSink.means _ _ _ _ c.note-start.ensures c.new.ensures
