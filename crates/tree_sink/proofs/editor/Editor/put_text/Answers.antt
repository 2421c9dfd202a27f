use Rattle.std.proofs.Common.{refl, rules, sym, ◌∙◌}
use Rattle.tree_construction.specs.Page.Edit.{PutText}
use Rattle.tree_sink.proofs.Texts.{text-none, told_text}
use Rattle.tree_sink.specs.Places.{place_of}
use Rattle.tree_sink.proofs.editor.Editor.put_text.Goals as goal

pub invariant_of-self-2 : goal.invariant_of-self-2
invariant_of-self-2 g c =
    told_text g.S.TreeSink.means _ _ _ _ _ _ _ _ g.met.S.TreeSink.joins (sym c.is_empty.ensures ∙ c.if-is_empty.false) c.self.invariant c.in-Ok.ensures.steps c.note_text.ensures

pub returns-clause-ok : goal.returns-clause-ok
returns-clause-ok g c =
    rw (
      ← c.self.view_is,
      c.in-Ok.ensures.steps,
      g.met.S.TreeSink.counts (g.S.TreeSink.means.state c.self.inside.sink) (PutText (place_of g.S.Handle.NodeHandle.node c.args.place) c.args.text.now),
    )
    (search rules)

pub returns-then-is_empty-clause-ok : goal.returns-then-is_empty-clause-ok
returns-then-is_empty-clause-ok g c =
    rw (text-none (place_of g.S.Handle.NodeHandle.node c.args.place) c.args.text.now c.args.self.now.edits (sym c.is_empty.ensures ∙ c.if-is_empty.true)) refl
