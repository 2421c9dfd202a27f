use Rattle.std.proofs.Common.{◌≡◌, ◌⊎◌, inl, inr, true, false, sym, ap, ◌∙◌}
use Rattle.html5reading.specs.Characters.{carriage_return, line_feed}
use Rattle.html5reading.specs.NormalisedText.{drops_first}
use Rattle.html5reading.specs.Start.{Input}
use Rattle.html5feed.specs.contracts.input.Input.{the_view}
use Rattle.html5reading.proofs.InputLemmas.{normalised-dropped, advance-dropped, normalised-other, advance-other, normalised-break, advance-break}
use Rattle.html5feed.proofs.input.Input.advance.Goals as goal
use Rattle.html5feed.proofs.input.Input.advance.Goals.{else-c-ne13-via-then-c-ne13+else-c-ne10, else-c-ne13-via-else-c-ne13}

pub returns-then-dropped-clause-moves : goal.returns-then-dropped-clause-moves
returns-then-dropped-clause-moves c =
    let dropped : drops_first (the_view c.self.inside) c.args.c ≡ true = ap (λ (I : Input). drops_first I c.args.c) c.self.view_is ∙ (sym c.drops-dropped.ensures ∙ c.if-dropped.true) in
    rw (← c.self.view_is) (advance-dropped (the_view c.self.inside) c.args.c dropped c.self.invariant)

pub returns-then-dropped-clause-reads : goal.returns-then-dropped-clause-reads
returns-then-dropped-clause-reads c = normalised-dropped _ _ (sym c.drops-dropped.ensures ∙ c.if-dropped.true)

pub returns-then-c-ne10-clause-moves : goal.returns-then-c-ne10-clause-moves
returns-then-c-ne10-clause-moves c =
    let kept : drops_first (the_view c.self.inside) c.args.c ≡ false = ap (λ (I : Input). drops_first I c.args.c) c.self.view_is ∙ (sym c.drops-dropped.ensures ∙ c.if-dropped.false) in
    rw (← c.self.view_is) (advance-other (the_view c.self.inside) c.args.c kept c.if-c-ne13.true c.if-c-ne10.true c.self.invariant)

pub returns-then-c-ne10-clause-reads : goal.returns-then-c-ne10-clause-reads
returns-then-c-ne10-clause-reads c =
    normalised-other _ _ (sym c.drops-dropped.ensures ∙ c.if-dropped.false) c.if-c-ne13.true

is_break : (c : goal.After-self-4-1) → (c.args.c ≡ carriage_return) ⊎ (c.args.c ≡ line_feed)
is_break c = elim c.else-c-ne13.branch [
  | else-c-ne13-via-then-c-ne13+else-c-ne10 w ↦ inr w.if-c-ne10.false
  | else-c-ne13-via-else-c-ne13 w ↦ inl w.if-c-ne13.false
]

pub returns-clause-moves : goal.returns-clause-moves
returns-clause-moves c =
    let kept : drops_first (the_view c.self.inside) c.args.c ≡ false = ap (λ (I : Input). drops_first I c.args.c) c.self.view_is ∙ (sym c.drops-dropped.ensures ∙ c.if-dropped.false) in
    rw (← c.self.view_is, c.saturating_add-self-inside.ensures) (advance-break (the_view c.self.inside) c.args.c kept (is_break c))

pub returns-clause-reads : goal.returns-clause-reads
returns-clause-reads c = normalised-break _ _ (sym c.drops-dropped.ensures ∙ c.if-dropped.false) (is_break c)
