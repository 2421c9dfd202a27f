use Rattle.std.proofs.Common.{false, ℕ, ◌≡◌, ◌+◌, ◌++◌, length, take, sym, ap, subst, ◌∙◌, arith, length-append}
use Rattle.std.specs.Prelude.{min}
use Rattle.decoded_source.specs.Lines.{ends_in_cr, line_at, line_ends}
use Rattle.html5programs.specs.Lines.{IsNear, Pieces}
use Rattle.html5programs.proofs.LinesNear.{line-counted}
use Rattle.html5programs.proofs.lines.Lines.line_at.Goals as goal

pub returns : goal.returns
returns c =
    let most : ℕ = 18446744073709551615 in
    let inside = c.self.inside in
    let before = inside.before.bytes in
    let piece = inside.piece in
    subst (λ (p : Pieces). IsNear c.args.place p → c.saturating_add-2.result ≡ min (line_at c.args.place (p.before ++ p.last)) most) c.self.view_is
    (λ near.
    c.saturating_add-2.ensures
    ∙ ap (λ n. min (n + 1) most) (c.saturating_add.ensures ∙ ap (λ n. min (inside.ends + n) most)
    (c.line_ends-ends.ensures.count ∙ ap (λ b. line_ends b (take c.min-within.result piece)) c.self.invariant.3 ∙ ap (λ n. line_ends (ends_in_cr false before) (take n piece)) (c.min-within.ensures ∙ ap (λ n. min n inside.count) c.saturating_sub.ensures)))
    ∙ line-counted most c.args.place inside.count inside.ends inside.start before piece
    (omega (arith, near.few, length-append before (take inside.count piece))) c.self.invariant.1 c.self.invariant.2 near.same_line)
