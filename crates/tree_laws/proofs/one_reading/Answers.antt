use Rattle.std.proofs.Common.{ap}
use Rattle.html5reading.specs.Reading.{messages}
use Rattle.tree_laws.proofs.Asking.{same-reading}
use Rattle.tree_laws.proofs.one_reading.Goals as goal

pub returns : goal.returns
returns g c = λ parser asks rules K s text.
    let means = g.S.TokenSink.means in
    ap (λ E. messages E) (same-reading means.step means.reply means.foreign parser asks rules K s text)
