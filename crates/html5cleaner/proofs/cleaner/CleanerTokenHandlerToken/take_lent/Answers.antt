use Rattle.std.proofs.Common.{ap, ◌∙◌}
use Rattle.html5ever_interface.specs.Token.{told_by}
use Rattle.html5cleaner.specs.Settled.{names_in}
use Rattle.html5cleaner.specs.Shape.{shape_of}
use Rattle.html5cleaner.proofs.GoodItems.{are_clean-now}
use Rattle.html5cleaner.proofs.cleaner.CleanerTokenHandlerToken.take_lent.Goals as goal

pub invariant_of-self : goal.invariant_of-self
invariant_of-self g c =
    let policy = c.self.inside.policy.now in
    let shape = shape_of policy in (
      are_clean-now policy c.self.inside.hidden.depth c.args.run.now (told_by c.args.token.now) c.self.inside.page c.keep_where.new.page
          (names_in shape c.self.inside.opened) (names_in shape c.settle.new.self) c.soundness.ensures
          c.in-Ok.ensures.written (ap (names_in shape) c.settle.ensures ∙ c.in-Ok.ensures.done) c.self.invariant.0,
      ap (λ o. o.tree.limit) c.settle.ensures ∙ c.in-Ok.ensures.limit_done ∙ c.self.invariant.1,
    )
