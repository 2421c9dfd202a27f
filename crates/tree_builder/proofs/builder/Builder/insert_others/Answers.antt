use Rattle.std.proofs.Common.{ap, sym, ◌∙◌}
use Rattle.tree_construction.specs.Parser.{not_frameset_ok}
use Rattle.tree_builder.specs.Built.{on_parser, texted}
use Rattle.tree_builder.proofs.RunActions.{others_in_body}
use Rattle.tree_builder.proofs.builder.Builder.insert_others.Goals as goal

pub returns-clause-parser : goal.returns-clause-parser
returns-clause-parser g c =
    c.set_frameset_not_ok.ensures ∙ (ap (on_parser not_frameset_ok) c.in_ok-insert_text.ensures
    ∙ (ap (λ b. on_parser not_frameset_ok (on_parser (texted c.args.text.now) b)) c.in_ok-reopen_lost.ensures.parser
    ∙ ap (λ q. record c.args.self.now { parser = q }) (sym (others_in_body c.args.text.now c.args.self.now.parser c.requires.some c.requires.all))))
