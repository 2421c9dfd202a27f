use Rattle.std.proofs.Common.{ap, inr, rules}
use Rattle.html5policy.specs.Text.{said_added, words}
use Rattle.html5policy.proofs.Lines.{unknown-word}
use Rattle.html5policy.proofs.text.add_rules.Goals as goal

pub returns-in_default : goal.returns-in_default
returns-in_default g c =
    inr (ap (said_added c.args.policy.now)
    (unknown-word c.args.word.now (words c.args.names.now) (search rules) (search rules) (search rules) (search rules) (search rules) (search rules) (search rules) (search rules) (search rules) (search rules)))
