use Rattle.html5splice.proofs.Reading.{on-end, on-end_stopped}
use Rattle.html5splice.specs.Splicing.{splicing_of}
use Rattle.html5splice.proofs.page.splice_end.Goals as goal

pub returns-in-Ok-clause-ends : goal.returns-in-Ok-clause-ends
returns-in-Ok-clause-ends g c =
    on-end g.H.Splicer.splices c.args.reader.now.reading (splicing_of g.H.Splicer.state g.O.Output.bytes c.args.splicing.now)
    (splicing_of g.H.Splicer.state g.O.Output.bytes c.end.new.handler) c.in-Ok.ensures.reads

pub returns-in-Err-clause-stops : goal.returns-in-Err-clause-stops
returns-in-Err-clause-stops g c =
    on-end_stopped g.H.Splicer.splices c.args.reader.now.reading (splicing_of g.H.Splicer.state g.O.Output.bytes c.args.splicing.now)
    (splicing_of g.H.Splicer.state g.O.Output.bytes c.end.new.handler) c.in-Err.ensures.stops
