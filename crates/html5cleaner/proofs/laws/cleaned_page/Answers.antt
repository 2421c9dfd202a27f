use Rattle.std.proofs.Common.{ap, ◌∙◌}
use Rattle.std.specs.List.{list_all}
use Rattle.html5cleaner.specs.Reading.{is_allowed_token}
use Rattle.html5cleaner.proofs.Tokens.{allowed-whole, read_back-clean}
use Rattle.html5cleaner.proofs.laws.cleaned_page.Goals as goal

pub returns-clause-tokens : goal.returns-clause-tokens
returns-clause-tokens g c = λ policy rules K s pieces back. c.whole_text.ensures.tokens rules K s pieces (read_back-clean policy rules K (g.S.TokenSink.means).reply pieces back)

pub returns-clause-allowed : goal.returns-clause-allowed
returns-clause-allowed g c = λ policy rules K s pieces back.
    ap (list_all (is_allowed_token policy)) (c.whole_text.ensures.tokens rules K s pieces (read_back-clean policy rules K (g.S.TokenSink.means).reply pieces back))
    ∙ allowed-whole policy pieces back.clean
