use Rattle.std.proofs.Common.{refl}
use Rattle.std.proofs.lemmas.Result.{on_ok_weaker, IfErr-weaker}
use Rattle.html5stream.proofs.Pages.{page-read, page-stopped, runs-are-page}
use Rattle.html5stream.proofs.page.read_tokens.Goals as goal
use Rattle.html5stream.proofs.ByItems.{runs-items}

pub returns-clause-finishes : goal.returns-clause-finishes
returns-clause-finishes g c =
    rw c.into_inner.ensures
    (on_ok_weaker c.read_source-joined.result.1
    (page-read _ _ _ _ _ _ _ _ _ _ _
    (runs-are-page c.args.references.now _ _ _ g.H.TokenHandler.step _ c.default-opts.ensures
    (rw (c.new-runs.ensures.handler, c.new-runs.ensures.run, c.new-runs.ensures.foreign) refl)))
    c.read_source-joined.ensures.finishes)

pub returns-clause-items : goal.returns-clause-items
returns-clause-items g c = on_ok_weaker c.read_source-joined.result.1 (runs-items g.H.TokenHandler.step c.args.references.now _ c.table_laws.ensures) (returns-clause-finishes g c)

pub returns-clause-beginning : goal.returns-clause-beginning
returns-clause-beginning g c =
    rw c.into_inner.ensures
    (IfErr-weaker c.read_source-joined.result.1 _ _
    (page-stopped _ _ _ _ _ _ _ _ _ _ _
    (runs-are-page c.args.references.now _ _ _ g.H.TokenHandler.step _ c.default-opts.ensures
    (rw (c.new-runs.ensures.handler, c.new-runs.ensures.run, c.new-runs.ensures.foreign) refl)))
    c.read_source-joined.ensures.beginning)
