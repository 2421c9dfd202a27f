use Rattle.std.proofs.Common.{refl}
use Rattle.html5ever_interface.proofs.collect.Collector.entries.Goals as goal

pub returns : goal.returns
returns g c = rw (c.as_slice.ensures.value, ← c.self.view_is) refl
