use Rattle.html5placed.proofs.Handed.{attached-end, attached-end_stops, writes-end, writes-end_stopped}
use Rattle.html5placed.proofs.session.read_end.Goals as goal

pub returns-in-Ok-clause-reads : goal.returns-in-Ok-clause-reads
returns-in-Ok-clause-reads g c =
    attached-end c.args.reader c.args.references.now c.attach-reader.result c.attach-reader.ensures
    c.args.records.now c.end-result.new.handler c.in-Ok.ensures.reads

pub returns-in-Ok-clause-on : goal.returns-in-Ok-clause-on
returns-in-Ok-clause-on g c = writes-end _ _ _ c.in-Ok.ensures.reads

pub returns-in-Err-clause-stops : goal.returns-in-Err-clause-stops
returns-in-Err-clause-stops g c =
    attached-end_stops c.args.reader c.args.references.now c.attach-reader.result c.attach-reader.ensures
    c.args.records.now c.end-result.new.handler c.in-Err.ensures.stops

pub returns-in-Err-clause-on : goal.returns-in-Err-clause-on
returns-in-Err-clause-on g c = writes-end_stopped _ _ _ c.in-Err.ensures.stops
