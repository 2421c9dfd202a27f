use Rattle.html5grammar.proofs.Cdata.Forms.{each-cdata}
use Rattle.html5grammar.proofs.each_cdata.Goals as goal

pub returns : goal.returns
returns c = each-cdata
