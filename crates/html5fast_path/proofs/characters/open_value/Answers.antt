use Rattle.std.proofs.Common.{refl}
use Rattle.html5partial.specs.CurrentTag.{open_tag}
use Rattle.html5fast_path.proofs.Beginnings.{front-nothing}
use Rattle.html5fast_path.proofs.Values.{reads-opening}
use Rattle.html5fast_path.proofs.characters.open_value.Goals as goal

pub returns-in_default-clause-reads : goal.returns-in_default-clause-reads
returns-in_default-clause-reads g c = front-nothing _ _ _ c.utf8.text refl

pub returns-then-not-begins_value-clause-reads : goal.returns-then-not-begins_value-clause-reads
returns-then-not-begins_value-clause-reads g c = front-nothing _ _ _ c.utf8.text refl

pub returns-clause-reads : goal.returns-clause-reads
returns-clause-reads g c = rw c.in-AttributeName.is (reads-opening c.args.text.now (open_tag c.args.at.now.tag) c.utf8.text (c.begins_value.ensures c.if-not-begins_value.false))
