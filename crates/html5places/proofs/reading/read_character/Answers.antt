use Rattle.std.proofs.Common.{[], ◌∷◌, refl}
use Rattle.html5places.proofs.HandingOn.{nothing-handed, reads-handed, stops-handed, token-handed}
use Rattle.html5places.proofs.reading.read_character.Goals as goal

pub returns-in-Ok-hand_on_waiting-clause-reads : goal.returns-in-Ok-hand_on_waiting-clause-reads
returns-in-Ok-hand_on_waiting-clause-reads g c =
    reads-handed g.H.PlacedHandler.step c.args.tokenizer.now c.feed_character.new.tokenizer c.hand_on_waiting.new.tokenizer
    (g.H.PlacedHandler.state c.args.handler.now) (g.H.PlacedHandler.state c.hand_on_waiting.new.handler) (c.args.c ∷ [])
    c.in-Ok.ensures.reads c.requires.nothing_kept c.in-Ok-hand_on_waiting.ensures.all c.hand_on_waiting.ensures.left

pub returns-in-Ok-hand_on_waiting-clause-token : goal.returns-in-Ok-hand_on_waiting-clause-token
returns-in-Ok-hand_on_waiting-clause-token g c =
    token-handed c.args.tokenizer.now c.feed_character.new.tokenizer (c.args.c ∷ []) _ c.in-Ok.ensures.reads c.requires.nothing_kept
    c.in-Ok-hand_on_waiting.ensures.token

pub returns-in-Err-hand_on_waiting-clause-stops : goal.returns-in-Err-hand_on_waiting-clause-stops
returns-in-Err-hand_on_waiting-clause-stops g c =
    stops-handed g.H.PlacedHandler.step c.args.tokenizer.now c.feed_character.new.tokenizer
    (g.H.PlacedHandler.state c.args.handler.now) (g.H.PlacedHandler.state c.hand_on_waiting.new.handler) (c.args.c ∷ [])
    c.in-Ok.ensures.reads c.requires.nothing_kept c.in-Err-hand_on_waiting.ensures.part

pub returns-in-Err-clause-stops : goal.returns-in-Err-clause-stops
returns-in-Err-clause-stops g c = λ B before there.
    nothing-handed g.H.PlacedHandler.step (g.H.PlacedHandler.state c.args.handler.now) (g.H.PlacedHandler.state c.args.handler.now) _ refl
