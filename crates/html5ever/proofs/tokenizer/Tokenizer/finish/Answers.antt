use Rattle.html5ever.proofs.tokenizer.Tokenizer.finish.Goals as goal

pub returns-clause-finishes : goal.returns-clause-finishes
returns-clause-finishes g c = rw c.into_sink.ensures c.end-result.ensures.finishes

pub returns-clause-items : goal.returns-clause-items
returns-clause-items g c = rw c.into_sink.ensures c.end-result.ensures.items

pub returns-clause-stops : goal.returns-clause-stops
returns-clause-stops g c = rw c.into_sink.ensures c.end-result.ensures.stops
