use Rattle.std.proofs.Common.{refl}
use Rattle.html5places.proofs.HandingOn.{end-handed, end-part, nothing-handed}
use Rattle.html5places.proofs.reading.read_end.Goals as goal

pub returns-in-Ok-hand_on_waiting-clause-reads : goal.returns-in-Ok-hand_on_waiting-clause-reads
returns-in-Ok-hand_on_waiting-clause-reads g c =
    end-handed g.H.PlacedHandler.step c.args.tokenizer.now c.send_end.new.tokenizer.sink.handler
    (g.H.PlacedHandler.state c.args.handler.now) (g.H.PlacedHandler.state c.hand_on_waiting.new.handler)
    c.in-Ok.ensures.reads c.requires.nothing_kept c.in-Ok-hand_on_waiting.ensures.all

pub returns-in-Err-hand_on_waiting-clause-stops : goal.returns-in-Err-hand_on_waiting-clause-stops
returns-in-Err-hand_on_waiting-clause-stops g c =
    end-part g.H.PlacedHandler.step c.args.tokenizer.now c.send_end.new.tokenizer.sink.handler
    (g.H.PlacedHandler.state c.args.handler.now) (g.H.PlacedHandler.state c.hand_on_waiting.new.handler)
    c.in-Ok.ensures.reads c.requires.nothing_kept c.in-Err-hand_on_waiting.ensures.part

pub returns-in-Err-clause-stops : goal.returns-in-Err-clause-stops
returns-in-Err-clause-stops g c = λ B before there.
    nothing-handed g.H.PlacedHandler.step (g.H.PlacedHandler.state c.args.handler.now) (g.H.PlacedHandler.state c.args.handler.now) _ refl
