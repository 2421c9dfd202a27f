use Rattle.std.proofs.Common.{◌≡◌, ap, ◌∙◌}
use Rattle.tree_builder.specs.Built.{on_parser}
use Rattle.tree_builder.specs.Characters.{flushed_text, uncollected}
use Rattle.tree_builder.proofs.Pending.{collected-apart}
use Rattle.tree_builder.proofs.builder.Builder.flush_pending.Goals as goal

pub returns : goal.returns
returns g c =
    let now = c.args.self.now in
    let text : c.deref.result.now ≡ now.parser.pending = c.deref.ensures ∙ c.take_pending-pending.ensures.text in
    c.put_back.ensures ∙ (ap (on_parser uncollected) c.in_ok-insert_collected.ensures
    ∙ (ap (λ b. on_parser uncollected (on_parser (flushed_text c.deref.result.now) b)) c.take_pending-pending.ensures.parser
    ∙ (ap (λ t. record now { parser = uncollected (flushed_text t (uncollected now.parser)) }) text
    ∙ ap (λ q. record now { parser = uncollected q }) (collected-apart now.parser.pending now.parser))))
