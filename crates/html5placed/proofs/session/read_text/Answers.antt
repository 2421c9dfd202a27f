use Rattle.html5placed.proofs.Handed.{attached-reads, attached-stops, writes-read, writes-stopped}
use Rattle.html5placed.proofs.session.read_text.Goals as goal

pub returns-in-Ok-clause-reads : goal.returns-in-Ok-clause-reads
returns-in-Ok-clause-reads g c =
    attached-reads c.args.reader c.args.references.now c.attach-reader.result c.attach-reader.ensures c.detach-reader.result c.read-result.new.self
    c.args.records.now c.read-result.new.handler _ c.detach-reader.ensures c.read-result.ensures.rules c.in-Ok.ensures.reads

pub returns-in-Ok-clause-on : goal.returns-in-Ok-clause-on
returns-in-Ok-clause-on g c = writes-read _ _ _ _ _ c.in-Ok.ensures.reads

pub returns-in-Err-clause-stops : goal.returns-in-Err-clause-stops
returns-in-Err-clause-stops g c =
    attached-stops c.args.reader c.args.references.now c.attach-reader.result c.attach-reader.ensures
    c.args.records.now c.read-result.new.handler _ c.in-Err.ensures.stops

pub returns-in-Err-clause-on : goal.returns-in-Err-clause-on
returns-in-Err-clause-on g c = writes-stopped _ _ _ _ c.in-Err.ensures.stops
