use Rattle.std.proofs.Common.{ap, sym, ◌∙◌}
use Rattle.html5ever.specs.Tokenizer.{state_at_end}
use Rattle.html5ever.proofs.StepRuns.{cutting-text}
use Rattle.html5ever.proofs.tokenizer.laws.cutting.Goals as goal

pub returns-clause-text : goal.returns-clause-text
returns-clause-text g c = λ rules K s pieces. cutting-text g.S.TokenSink.means rules K s pieces

pub returns-clause-states : goal.returns-clause-states
returns-clause-states g c = λ rules K s pieces others same.
    ap (λ text. state_at_end g.S.TokenSink.means rules K s text)
    (cutting-text g.S.TokenSink.means rules K s pieces ∙ same ∙ sym (cutting-text g.S.TokenSink.means rules K s others))
