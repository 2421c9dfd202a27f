use Rattle.html5reading.proofs.NoTagsAtEnd.{cut_off_tags}
use Rattle.html5reading.proofs.tags_cut_off.Goals as goal

pub returns : goal.returns
returns g c = λ rules K s text. cut_off_tags g.S.TokenSink.means.step g.S.TokenSink.means.reply g.S.TokenSink.means.foreign rules K s text
