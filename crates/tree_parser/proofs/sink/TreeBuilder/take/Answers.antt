use Rattle.std.proofs.Common.{◌≡◌, None, ap, sym, ◌∙◌}
use Rattle.tree_construction.specs.Text.{replied_by}
use Rattle.tree_parser.specs.Building.{sent_by}
use Rattle.tree_parser.proofs.Stepping.{none-of}
use Rattle.tree_parser.proofs.sink.TreeBuilder.take.Goals as goal

pub returns-in-Ok-clause-replies : goal.returns-in-Ok-clause-replies
returns-in-Ok-clause-replies g c =
    let none : c.self.inside.error ≡ None = none-of c.self.inside.error (sym c.is_some.ensures ∙ c.if-is_some.false) in
    let same : c.self.inside.builder.parser ≡ c.args.self.now.state.parser =
    ap (λ s. s.parser) (c.self.invariant.stands none) ∙ ap (λ b. b.state.parser) c.self.view_is in
    λ line. c.in-Ok.ensures.replies line ∙ ap (λ p. replied_by p (sent_by c.args.sent) line) same
