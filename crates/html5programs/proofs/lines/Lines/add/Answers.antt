use Rattle.std.proofs.Common.{false, ℕ, ◌+◌, length, take, sym, ap, ◌∙◌, length-append}
use Rattle.std.specs.Prelude.{min}
use Rattle.decoded_source.specs.Lines.{ends_in_cr, line_ends}
use Rattle.decoded_source.proofs.TwoTexts.{ends_in_cr-append, line_ends-append}
use Rattle.html5programs.proofs.LinesNear.{saturated}
use Rattle.html5programs.proofs.lines.Lines.add.Goals as goal

pub invariant_of-self : goal.invariant_of-self
invariant_of-self c =
    let most : ℕ = 18446744073709551615 in
    let before = c.self.inside.before.bytes in
    let last = take c.self.inside.count c.self.inside.piece in
    let after_cr = ends_in_cr false before in (
      c.requires,
      c.saturating_add-self-inside.ensures
          ∙ ap (λ n. min (n + length last) most) c.self.invariant.1
          ∙ saturated most (length before) (length last)
          ∙ ap (λ n. min n most) (sym (ap length c.add.ensures ∙ length-append before last)),
      c.saturating_add-self-inside-2.ensures
          ∙ ap (λ n. min (c.self.inside.ends + n) most) (c.line_ends-ends.ensures.count ∙ ap (λ b. line_ends b last) c.self.invariant.3)
          ∙ ap (λ n. min (n + line_ends after_cr last) most) c.self.invariant.2
          ∙ saturated most (line_ends false before) (line_ends after_cr last)
          ∙ ap (λ n. min n most) (sym (ap (line_ends false) c.add.ensures ∙ line_ends-append false before last)),
      c.line_ends-ends.ensures.after_cr ∙ ap (λ b. ends_in_cr b last) c.self.invariant.3
          ∙ sym (ap (ends_in_cr false) c.add.ensures ∙ ends_in_cr-append false before last),
    )
