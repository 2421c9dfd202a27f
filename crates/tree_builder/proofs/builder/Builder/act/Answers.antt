use Rattle.std.proofs.Common.{ap, inl, inr, sym}
use Rattle.tree_builder.proofs.RunActions.{ignored_all, reprocessed_all}
use Rattle.tree_builder.proofs.builder.Builder.act.Goals as goal

pub returns-in-Ignore-clause-parser : goal.returns-in-Ignore-clause-parser
returns-in-Ignore-clause-parser g c =
    elim c.in-Ignore.is [
      | inl e ↦ rw e (ap (λ q. record c.args.self.now { parser = q }) (sym (ignored_all c.args.text.now c.args.self.now.parser)))
      | inr e ↦ rw e (ap (λ q. record c.args.self.now { parser = q }) (sym (reprocessed_all c.args.text.now c.args.self.now.parser)))
    ]
