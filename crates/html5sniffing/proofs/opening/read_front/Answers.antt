use Rattle.std.proofs.Common.{sym, subst}
use Rattle.std.specs.Io.KnownBytes.{Consumes}
use Rattle.std.proofs.KnownBytes.{Consumes-trans}
use Rattle.html5sniffing.proofs.opening.read_front.Goals as goal

pub returns-in-Ok-true-clause-given : goal.returns-in-Ok-true-clause-given
returns-in-Ok-true-clause-given g c =
    subst (λ l. Consumes (g.R.Source.remaining c.args.source.now) (g.R.Source.remaining c.read.new.self) l) (sym c.in-Ok-true.ensures.bytes)
    (Consumes-trans _ (g.R.Source.remaining c.loop-count.source) _ _ _ c.loop-count.invariant.given c.in-Ok.ensures.bytes.0)
