use Rattle.html5cleaner.proofs.Schemes.{safe-runs_nothing, safe-scheme}
use Rattle.html5cleaner.proofs.laws.safe_addresses.Goals as goal

pub returns-clause-scheme : goal.returns-clause-scheme
returns-clause-scheme c = λ policy address base url sound safe is. safe-scheme policy address base url sound safe is

pub returns-clause-runs_nothing : goal.returns-clause-runs_nothing
returns-clause-runs_nothing c = λ policy address base url sound safe is runs. safe-runs_nothing policy address base url sound safe is runs
