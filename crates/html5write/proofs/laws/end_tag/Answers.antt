use Rattle.html5write.proofs.Tags.{end_tag-told}
use Rattle.html5write.proofs.laws.end_tag.Goals as goal

pub returns : goal.returns
returns g c = λ rules K s name back. end_tag-told g.S.TokenSink.means rules K s name back.table back.starts back.can back.keeps
