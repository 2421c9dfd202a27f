use Rattle.html5json.proofs.ReadBack.{link_reads_back}
use Rattle.html5json.proofs.laws.links_read_back.Goals as goal

pub returns : goal.returns
returns c = link_reads_back
