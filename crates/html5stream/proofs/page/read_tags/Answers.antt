use Rattle.std.proofs.Common.{refl}
use Rattle.std.proofs.lemmas.Result.{on_ok_weaker, IfErr-weaker}
use Rattle.html5stream.proofs.Pages.{page-read, page-stopped, tags-are-page}
use Rattle.html5stream.proofs.page.read_tags.Goals as goal
use Rattle.html5stream.proofs.ByItems.{tags-items}

pub returns-clause-finishes : goal.returns-clause-finishes
returns-clause-finishes g c =
    rw c.into_inner.ensures
    (on_ok_weaker c.read_source-told.result.1
    (page-read _ _ _ _ _ _ _ _ _ _ _
    (tags-are-page c.args.references.now _ _ _ g.H.TagHandler.step _ c.default-opts.ensures
    (rw (c.new-tags.ensures.handler, c.new-tags.ensures.foreign) refl)))
    c.read_source-told.ensures.finishes)

pub returns-clause-items : goal.returns-clause-items
returns-clause-items g c = on_ok_weaker c.read_source-told.result.1 (tags-items g.H.TagHandler.step c.args.references.now _ c.table_laws.ensures) (returns-clause-finishes g c)

pub returns-clause-beginning : goal.returns-clause-beginning
returns-clause-beginning g c =
    rw c.into_inner.ensures
    (IfErr-weaker c.read_source-told.result.1 _ _
    (page-stopped _ _ _ _ _ _ _ _ _ _ _
    (tags-are-page c.args.references.now _ _ _ g.H.TagHandler.step _ c.default-opts.ensures
    (rw (c.new-tags.ensures.handler, c.new-tags.ensures.foreign) refl)))
    c.read_source-told.ensures.beginning)
