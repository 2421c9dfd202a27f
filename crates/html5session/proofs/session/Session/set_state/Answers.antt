use Rattle.std.proofs.Common.{refl, sym, ◌∙◌}
use Rattle.html5session.proofs.Calls.{sets_state}
use Rattle.html5session.proofs.session.Session.set_state.Goals as goal

pub returns-else-not-nothing_open-clause-sets : goal.returns-else-not-nothing_open-clause-sets
returns-else-not-nothing_open-clause-sets g c =
    sets_state g.S.TokenSink.means _ _ c.args.state (sym c.is_over.ensures ∙ c.if-is_over.false) (rw (← c.self.view_is, c.set_state.ensures) refl)
