use Rattle.std.proofs.Common.{refl}
use Rattle.html5ever_interface.specs.Token.{told_by}
use Rattle.html5states.proofs.Tellings.{emits_token, emits_fault, emits_one, emits_fault-one, token-tells, token-faults}
use Rattle.html5states.proofs.teller.Teller.hand_on.Goals as goal
use Rattle.html5states.proofs.teller.Teller.hand_on.Goals.{in-Ok-Continue, in-Err}

pub returns : goal.returns
returns g c = elim c.match-process_token.branch [
  | in-Ok-Continue w ↦ rw w.result-is (record {
    whole = emits_one {means = g.S.TokenSink.means} c.args.token w.in-Ok-Continue.ensures.steps w.in-Ok-Continue.ensures.no_fault (record { sink = refl; line = refl; exact_errors = refl });
    characters = emits_token {means = g.S.TokenSink.means} g.met.S.TokenSink.joins g.met.S.TokenSink.empty g.met.S.TokenSink.any_line c.args.token c.requires.filled w.in-Ok-Continue.ensures.steps w.in-Ok-Continue.ensures.no_fault (record { sink = refl; line = refl; exact_errors = refl });
    says = λ M said. token-tells g.S.TokenSink.means.step g.S.TokenSink.means.faulted g.met.S.TokenSink.joins g.met.S.TokenSink.empty g.met.S.TokenSink.any_line _ _ _ _ M said w.in-Ok-Continue.ensures.steps;
  })
  | in-Err w ↦ rw w.result-is (record {
    whole = emits_fault-one {means = g.S.TokenSink.means} (told_by c.args.token) w.in-Err.ensures.fault w.in-Err.ensures.one_fault (record { sink = refl; line = refl; exact_errors = refl });
    characters = emits_fault {means = g.S.TokenSink.means} c.args.token c.requires.filled w.in-Err.ensures.fault w.in-Err.ensures.one_fault (record { sink = refl; line = refl; exact_errors = refl });
    says = λ M said. token-faults g.S.TokenSink.means.step g.S.TokenSink.means.faulted _ _ _ _ M said w.in-Err.ensures.fault;
  })
]
