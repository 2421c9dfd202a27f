use Rattle.std.proofs.Common.{[]}
use Rattle.std.proofs.lemmas.Result.{on_ok_weaker}
use Rattle.html5ever_interface.specs.Options.{options_of}
use Rattle.html5reading.specs.Start.{start_of}
use Rattle.html5ever.proofs.ByItems.{whole-items}
use Rattle.html5ever.proofs.tokenizer.whole.read_from_start.Goals as goal

pub returns-clause-items : goal.returns-clause-items
returns-clause-items g c =
    rw c.into_sink.ensures
    (on_ok_weaker c.read_waiting-result.result
    (λ finishes. whole-items g.S.TokenSink.means (options_of c.args.opts) c.args.references.now (g.S.TokenSink.means.state c.args.sink) _ _ _ c.table_laws.ensures c.new-tokenizer.ensures.rules
    (finishes (start_of (options_of c.args.opts)) (g.S.TokenSink.means.state c.args.sink) [] c.new-tokenizer.ensures.stands))
    c.read_waiting-result.ensures.finishes)
