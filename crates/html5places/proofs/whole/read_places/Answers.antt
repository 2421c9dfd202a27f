use Rattle.std.proofs.Common.{◌+◌, ◌<◌, ◌^◌, length, arith}
use Rattle.std.specs.Str.{chars}
use Rattle.html5ever.specs.Tokenizer.{rules_of}
use Rattle.html5ever_interface.specs.Options.{options_of}
use Rattle.html5reading.specs.Start.{start_of}
use Rattle.html5places.proofs.WholeText.{none-read, refuses-by, whole-end_stopped, whole-read, whole-stopped}
use Rattle.html5places.proofs.whole.read_places.Goals as goal

pub returns-in-Ok-end-clause-placed : goal.returns-in-Ok-end-clause-placed
returns-in-Ok-end-clause-placed g c =
    whole-read g.H.PlacedHandler.step c.new-reader.result.reading c.read.new.self.reading (rules_of (options_of c.args.opts) c.args.references.now)
    (start_of (options_of c.args.opts)) (chars c.args.text.now)
    (g.H.PlacedHandler.state c.args.handler.now) (g.H.PlacedHandler.state c.read.new.handler) (g.H.PlacedHandler.state c.end.new.handler)
    c.new-reader.ensures.stands c.new-reader.ensures.rules c.read.ensures.rules c.in-Ok.ensures.reads c.in-Ok-end.ensures.reads

pub returns-in-Ok-clause-beginning : goal.returns-in-Ok-clause-beginning
returns-in-Ok-clause-beginning g c =
    whole-end_stopped g.H.PlacedHandler.step c.new-reader.result.reading c.read.new.self.reading (rules_of (options_of c.args.opts) c.args.references.now)
    (start_of (options_of c.args.opts)) (chars c.args.text.now)
    (g.H.PlacedHandler.state c.args.handler.now) (g.H.PlacedHandler.state c.read.new.handler) (g.H.PlacedHandler.state c.end.new.handler)
    c.new-reader.ensures.stands c.new-reader.ensures.rules c.read.ensures.rules c.in-Ok.ensures.reads c.in-Err-end.ensures.stops

pub refusal-requires-in-Err : goal.refusal-requires-in-Err
refusal-requires-in-Err g c =
    let none = none-read c.new-reader.result.reading (start_of (options_of c.args.opts)) c.new-reader.ensures.stands in
    let fits : c.new-reader.result.reading.marks.to + length c.args.text.now < 2 ^ 64 = omega (arith, none) in
    refuses-by c.read.result c.in-Err.error c.new-reader.result.over (c.new-reader.result.reading.marks.to + length c.args.text.now)
    c.in-Err.is c.new-reader.ensures.going_on fits c.read.ensures.failed c.read.ensures.too_long

pub returns-clause-beginning : goal.returns-clause-beginning
returns-clause-beginning g c =
    whole-stopped g.H.PlacedHandler.step c.new-reader.result.reading c.read.new.self.reading (rules_of (options_of c.args.opts) c.args.references.now)
    (start_of (options_of c.args.opts)) (chars c.args.text.now)
    (g.H.PlacedHandler.state c.args.handler.now) (g.H.PlacedHandler.state c.read.new.handler)
    c.new-reader.ensures.stands c.new-reader.ensures.rules c.in-Err.ensures.stops
