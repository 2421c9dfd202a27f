use Rattle.html5ever.proofs.Wholes.{untold}
use Rattle.html5ever.proofs.tokenizer.whole.read_pieces.Goals as goal

pub returns-then-is_err-clause-stops : goal.returns-then-is_err-clause-stops
returns-then-is_err-clause-stops g c = untold g.S.TokenSink.means (g.S.TokenSink.means.state c.args.sink) _
