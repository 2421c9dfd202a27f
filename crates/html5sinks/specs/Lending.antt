-- What a sink of runs is once its handler was lent.
use Rattle.std.specs.Borrow.{Lends, Fml, RattleType, MutBor}
use Rattle.std.specs.declared.alloc.Allocator.{Ghosts}
use Rattle.html5sinks.specs.Runs.{RunSink}
use Rattle.html5sinks.specs.contracts.text_runs.TextRuns.{the_row}

-- the handler is the value left in the reference, and all else is as it was
abbrev pub LendsHandler : (H A : RattleType) → Ghosts A.Denot → MutBor (RunSink H.Denot) → MutBor H.Denot → Fml
LendsHandler H A alloc sink handler = Lends (the_row H A alloc) H sink handler (λ left. record sink.now { handler = left })
