use Rattle.std.proofs.Common.{refl, ap}
use Rattle.html5partial.specs.CharRef.{with_reference}
use Rattle.html5reading.specs.Start.{Start}
use Rattle.html5feed.proofs.Starting.{goes_on-in}
use Rattle.html5feed.proofs.position.Position.set_state.Goals as goal

pub returns : goal.returns
unfolding with_reference
returns g c =
    goes_on-in c.args.self.now (record c.self.inside.opened { state = c.args.state; comment = c.clear.new.self }) c.self.inside.input c.args.state
    refl c.clear.ensures.bytes c.requires (ap (λ (K : Start). K.last_start_tag) c.self.view_is) (ap (λ (K : Start). K.input) c.self.view_is)
