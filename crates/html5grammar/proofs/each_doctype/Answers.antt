use Rattle.html5grammar.proofs.Doctype.Forms.{each-doctype}
use Rattle.html5grammar.proofs.each_doctype.Goals as goal

pub returns : goal.returns
returns c = each-doctype
