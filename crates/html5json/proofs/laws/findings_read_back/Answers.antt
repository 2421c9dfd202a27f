use Rattle.html5json.proofs.ReadBack.{finding_reads_back, result_reads_back}
use Rattle.html5json.proofs.laws.findings_read_back.Goals as goal

pub returns-clause-line : goal.returns-clause-line
returns-clause-line c = finding_reads_back

pub returns-clause-result : goal.returns-clause-result
returns-clause-result c = result_reads_back
