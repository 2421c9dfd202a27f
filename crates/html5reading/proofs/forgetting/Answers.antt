use Rattle.html5reading.proofs.ReadingLemmas.{told-append, after-append}
use Rattle.html5reading.proofs.forgetting.Goals as goal

pub returns-clause-told : goal.returns-clause-told
returns-clause-told g c = λ exact K s text rest. told-append g.S.TokenSink.means.step g.S.TokenSink.means.reply g.S.TokenSink.means.foreign exact K s text rest

pub returns-clause-after : goal.returns-clause-after
returns-clause-after g c = λ exact K s text rest. after-append g.S.TokenSink.means.step g.S.TokenSink.means.reply g.S.TokenSink.means.foreign exact K s text rest
