use Rattle.std.proofs.Common.{refl, inl, rules}
use Rattle.html5states.proofs.Tellings.{token-tells, token-faults}
use Rattle.html5states.proofs.teller.Teller.hand_on_text.Goals as goal

pub returns-in-Ok-clause-says : goal.returns-in-Ok-clause-says
returns-in-Ok-clause-says g c =
    λ M said. token-tells g.S.TokenSink.means.step g.S.TokenSink.means.faulted g.met.S.TokenSink.joins g.met.S.TokenSink.empty g.met.S.TokenSink.any_line _ _ _ _ M said c.in-Ok.ensures.steps

pub returns-in-Err-Sink-clause-says : goal.returns-in-Err-Sink-clause-says
returns-in-Err-Sink-clause-says g c =
    λ M said. token-faults g.S.TokenSink.means.step g.S.TokenSink.means.faulted _ _ _ _ M said (c.in-Err-Sink.ensures.fault (search rules))

pub returns-in-Err-Sink-clause-whole : goal.returns-in-Err-Sink-clause-whole
returns-in-Err-Sink-clause-whole g c = record {
  tells = token-faults g.S.TokenSink.means.step g.S.TokenSink.means.faulted _ _ _ _ _ (inl refl) (c.in-Err-Sink.ensures.fault (search rules));
  refusal = tt;
  faults = c.in-Err-Sink.ensures.one_fault (search rules);
  kept = record { sink = refl; line = refl; exact_errors = refl };
}
