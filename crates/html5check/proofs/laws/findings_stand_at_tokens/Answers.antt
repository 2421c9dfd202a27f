use Rattle.html5check.proofs.Standing.{all-at_tokens, all-in_text}
use Rattle.html5check.proofs.laws.findings_stand_at_tokens.Goals as goal

pub returns-clause-tokens : goal.returns-clause-tokens
returns-clause-tokens c = λ tokens. all-at_tokens tokens

pub returns-clause-text : goal.returns-clause-text
returns-clause-text c = λ references text. all-in_text references text
