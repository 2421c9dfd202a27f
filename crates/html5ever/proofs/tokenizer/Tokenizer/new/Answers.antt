use Rattle.std.proofs.Common.{refl}
use Rattle.html5ever.proofs.Standing.{StandsAt-start}
use Rattle.html5ever.proofs.tokenizer.Tokenizer.new.Goals as goal

pub returns-clause-stands : goal.returns-clause-stands
returns-clause-stands g c =
    StandsAt-start g.Sink.TokenSink.means _ _ c.new.ensures.start refl refl
