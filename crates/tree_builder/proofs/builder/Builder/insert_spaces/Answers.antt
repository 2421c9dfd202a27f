use Rattle.std.proofs.Common.{ap, sym, ◌∙◌}
use Rattle.std.proofs.lemmas.Result.{on_ok_weaker}
use Rattle.tree_builder.specs.Built.{on_parser, texted}
use Rattle.tree_builder.proofs.RunActions.{spaces_in_body}
use Rattle.tree_builder.proofs.builder.Builder.insert_spaces.Goals as goal

pub returns-clause-parser : goal.returns-clause-parser
returns-clause-parser g c =
    on_ok_weaker c.insert_text.result
    (λ e. e ∙ (ap (on_parser (texted c.args.text.now)) c.in_ok-reopen_lost.ensures.parser
    ∙ ap (λ q. record c.args.self.now { parser = q }) (sym (spaces_in_body c.args.text.now c.args.self.now.parser c.requires.some c.requires.all))))
    c.insert_text.ensures

pub returns-clause-kinds : goal.returns-clause-kinds
returns-clause-kinds g c = on_ok_weaker c.insert_text.result (λ e. c.in_ok-reopen_lost.ensures.kinds) c.insert_text.ensures
