use Rattle.std.proofs.Common.{ℕ, List, [], sym, subst}
use Rattle.html5placed.specs.PlacedSessions.{PlacedSessionOf, StandsIn}
use Rattle.html5ever_interface.specs.Options.{options_of}
use Rattle.html5reading.specs.Start.{Start, start_of}
use Rattle.html5placed.proofs.session.PlacedSession.restart.Goals as goal

-- where a session stands has nothing to do with its limit
limited : (s : PlacedSessionOf) (limit : ℕ) (K : Start) (page : List ℕ) → StandsIn s K page → StandsIn (record s { limit = limit }) K page
limited s limit K page stands = record {
  text = stands.text;
  whole = stands.whole;
  utf8 = stands.utf8;
  place = stands.place;
  reader = stands.reader;
  written = stands.written;
}

pub returns-clause-stands : goal.returns-clause-stands
returns-clause-stands g c =
    subst (λ (s : PlacedSessionOf). StandsIn s (start_of (options_of c.args.opts)) []) (sym c.set_limit.ensures)
    (limited c.new-next.result c.self.inside.limit (start_of (options_of c.args.opts)) [] c.new-next.ensures.stands)
