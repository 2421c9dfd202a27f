use Rattle.html5partial.proofs.Sections.{bracketed}
use Rattle.html5partial.proofs.cdata.section_len.Goals as goal

pub overflow_sub-result : goal.overflow_sub-result
overflow_sub-result c = (bracketed c.args.text.now c.utf8.text c.requires).within

pub returns-clause-content : goal.returns-clause-content
returns-clause-content c = (bracketed c.args.text.now c.utf8.text c.requires).content

pub returns-clause-boundary : goal.returns-clause-boundary
returns-clause-boundary c = (bracketed c.args.text.now c.utf8.text c.requires).boundary
