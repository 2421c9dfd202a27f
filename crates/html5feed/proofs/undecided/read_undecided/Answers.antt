use Rattle.std.proofs.Common.{sym, ◌∙◌}
use Rattle.html5feed.proofs.UndecidedReading.{reads-plain}
use Rattle.html5feed.proofs.undecided.read_undecided.Goals as goal

pub returns-then-not-is_undecided : goal.returns-then-not-is_undecided
returns-then-not-is_undecided g c =
    reads-plain g.S.TokenSink.means g.S.TokenSink.faults c.args.rules.now c.args.line c.args.c c.args.sink.now c.args.position.now (sym c.is_undecided.ensures ∙ c.if-not-is_undecided.true)
