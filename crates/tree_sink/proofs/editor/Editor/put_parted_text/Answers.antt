use Rattle.std.proofs.Common.{refl, rules, sym, ◌∙◌, length, ◌-◌}
use Rattle.tree_construction.specs.Page.Edit.{PutText}
use Rattle.tree_sink.specs.Sinks.{erred}
use Rattle.tree_sink.proofs.Texts.{erred-next, parted-none, told_parted}
use Rattle.tree_sink.specs.Places.{place_of}
use Rattle.tree_sink.proofs.editor.Editor.put_parted_text.Goals as goal

pub invariant_of-self-2 : goal.invariant_of-self-2
invariant_of-self-2 g c =
    told_parted g.S.TreeSink.means _ _ _ _ _ c.args.mistake (place_of g.S.Handle.NodeHandle.node c.args.place) c.args.text.now _ g.met.S.TreeSink.joins g.met.S.TreeSink.apart (sym c.is_empty.ensures ∙ c.if-is_empty.false) c.self.invariant c.in-Ok.ensures.steps c.note_parted_text.ensures

pub returns-then-is_empty-clause-ok : goal.returns-then-is_empty-clause-ok
returns-then-is_empty-clause-ok g c =
    rw (parted-none c.args.mistake (place_of g.S.Handle.NodeHandle.node c.args.place) c.args.text.now c.args.self.now.edits (sym c.is_empty.ensures ∙ c.if-is_empty.true)) refl

pub returns-clause-ok : goal.returns-clause-ok
returns-clause-ok g c =
    rw (
      ← c.self.view_is,
      c.in-Ok.ensures.steps,
      g.met.S.TreeSink.counts (erred g.S.TreeSink.means.step c.args.mistake (length c.args.text.now - 1) (g.S.TreeSink.means.state c.self.inside.sink)) (PutText (place_of g.S.Handle.NodeHandle.node c.args.place) c.args.text.now),
      erred-next g.S.TreeSink.means g.met.S.TreeSink.counts c.args.mistake (length c.args.text.now - 1) (g.S.TreeSink.means.state c.self.inside.sink),
    )
    (search rules)
