use Rattle.std.proofs.Common.{ap, sym, ◌∙◌}
use Rattle.tree_construction.specs.Parser.{not_frameset_ok}
use Rattle.tree_builder.specs.Built.{on_parser}
use Rattle.tree_builder.proofs.RunActions.{foreign_text}
use Rattle.tree_builder.proofs.builder.Builder.insert_foreign_text.Goals as goal

pub returns : goal.returns
returns g c =
    c.set_frameset_not_ok.ensures ∙ (ap (on_parser not_frameset_ok) c.in_ok-insert_text.ensures
    ∙ ap (λ q. record c.args.self.now { parser = q }) (sym (foreign_text c.args.text.now c.args.self.now.parser c.requires)))
