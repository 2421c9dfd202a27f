use Rattle.std.proofs.Common.{ap, refl, sym, ◌∙◌}
use Rattle.std.proofs.lemmas.Bool.{false≢true}
use Rattle.html5placed.specs.PlacedSessions.{PlacedSessionOf}
use Rattle.html5placed.proofs.session.PlacedSession.end.Goals as goal

pub returns-then-not-is_complete-clause-refused : goal.returns-then-not-is_complete-clause-refused
returns-then-not-is_complete-clause-refused g c = record {
  held = λ none.
      false≢true
      (sym c.if-not-is_complete.true ∙ c.is_complete.ensures.complete.1 (ap (λ (x : PlacedSessionOf). x.decoder.held) c.self.view_is ∙ none));
  unchanged = refl;
}

pub end_read-requires : goal.end_read-requires
end_read-requires g c =
    sym (ap (λ (x : PlacedSessionOf). x.decoder.held) c.self.view_is) ∙ c.is_complete.ensures.complete.0 c.if-not-is_complete.false
