use Rattle.html5rewrite.proofs.WrittenPages.{reads-written, items-written, stops-written}
use Rattle.html5rewrite.proofs.page.rewrite_page.Goals as goal

pub returns-in-Ok-clause-finishes : goal.returns-in-Ok-clause-finishes
returns-in-Ok-clause-finishes g c =
    rw c.into_output.ensures
    (reads-written (g.H.TagRewriter.means c.args.rewriter) c.args.references.now _ _ (g.O.Output.bytes c.args.output) _ (rw c.in-Ok.is at c.read_rewritten-handler.ensures.finishes))

pub returns-in-Err-clause-beginning : goal.returns-in-Err-clause-beginning
returns-in-Err-clause-beginning g c =
    rw c.into_output-in-Err.ensures
    (stops-written (g.H.TagRewriter.means c.args.rewriter) c.args.references.now _ _ (g.O.Output.bytes c.args.output) _ (rw c.in-Err.is at c.read_rewritten-handler.ensures.beginning))

pub returns-in-Ok-clause-items : goal.returns-in-Ok-clause-items
returns-in-Ok-clause-items g c =
    items-written (g.H.TagRewriter.means c.args.rewriter) c.args.references.now _ c.table_laws.ensures (returns-in-Ok-clause-finishes g c)
