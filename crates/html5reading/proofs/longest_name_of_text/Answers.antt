use Rattle.std.specs.Prelude.{[]}
use Rattle.html5reading.proofs.NameRuns.{longest-run, held-of_text}
use Rattle.html5reading.proofs.longest_name_of_text.Goals as goal

pub returns-clause-name : goal.returns-clause-name
returns-clause-name c = λ references text other. longest-run references [] text other

pub returns-clause-held : goal.returns-clause-held
returns-clause-held c = λ references text table other. held-of_text references text table other
