use Rattle.std.proofs.Common.{ap, subst}
use Rattle.std.specs.Str.{chars}
use Rattle.html5places.specs.Readers.{Reads, StopsWithin}
use Rattle.html5splice.proofs.Reading.{on-nothing, on-read, on-stopped}
use Rattle.html5splice.specs.Splicing.{Splicing, splicing_of, splicing_step}
use Rattle.html5splice.proofs.page.splice_on.Goals as goal

pub returns-in_default-clause-stops : goal.returns-in_default-clause-stops
returns-in_default-clause-stops g c =
    on-nothing g.H.Splicer.splices c.args.reader.now.reading (splicing_of g.H.Splicer.state g.O.Output.bytes c.args.splicing.now)
    (splicing_of g.H.Splicer.state g.O.Output.bytes c.push.new.self) (chars c.args.text.now)
    (ap (λ (x : Splicing g.H.Splicer.State). x.written) (ap (λ h. splicing_of g.H.Splicer.state g.O.Output.bytes h) c.in_default.ensures.err))

pub returns-in-Ok-read-clause-splices : goal.returns-in-Ok-read-clause-splices
returns-in-Ok-read-clause-splices g c =
    on-read g.H.Splicer.splices c.args.reader.now.reading (splicing_of g.H.Splicer.state g.O.Output.bytes c.args.splicing.now)
    (splicing_of g.H.Splicer.state g.O.Output.bytes c.read.new.handler) c.read.new.self.reading c.args.text.now c.utf8.text
    (subst
    (λ (x : Splicing g.H.Splicer.State). Reads (splicing_step g.H.Splicer.splices) c.args.reader.now.reading c.read.new.self.reading x
    (splicing_of g.H.Splicer.state g.O.Output.bytes c.read.new.handler) (chars c.args.text.now))
    (ap (λ h. splicing_of g.H.Splicer.state g.O.Output.bytes h) c.in-Ok.ensures.ok)
    c.in-Ok-read.ensures.reads)
    c.read.ensures.rules

pub returns-in-Err-clause-stops : goal.returns-in-Err-clause-stops
returns-in-Err-clause-stops g c =
    on-stopped g.H.Splicer.splices c.args.reader.now.reading (splicing_of g.H.Splicer.state g.O.Output.bytes c.args.splicing.now)
    (splicing_of g.H.Splicer.state g.O.Output.bytes c.read.new.handler) c.args.text.now c.utf8.text
    (subst
    (λ (x : Splicing g.H.Splicer.State). StopsWithin (splicing_step g.H.Splicer.splices) c.args.reader.now.reading x
    (splicing_of g.H.Splicer.state g.O.Output.bytes c.read.new.handler) (chars c.args.text.now))
    (ap (λ h. splicing_of g.H.Splicer.state g.O.Output.bytes h) c.in-Ok.ensures.ok)
    c.in-Err.ensures.stops)
