use Rattle.std.proofs.Common.{◌∙◌}
use Rattle.html5partial.proofs.Sections.{section-ends}
use Rattle.html5partial.proofs.cdata.ends_section.Goals as goal

pub returns : goal.returns
returns c = c.ends_in.ensures ∙ section-ends c.args.text.now c.utf8.text
