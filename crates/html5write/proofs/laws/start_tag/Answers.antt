use Rattle.html5write.proofs.Tags.{start_tag-told}
use Rattle.html5write.proofs.laws.start_tag.Goals as goal

pub returns : goal.returns
returns g c = λ rules K s name attributes back. start_tag-told g.S.TokenSink.means rules K s name attributes back.table back.starts back.can back.keeps
