use Rattle.std.proofs.Common.{ap, sym, ◌∙◌}
use Rattle.tree_construction.specs.Parser.{not_frameset_ok}
use Rattle.tree_builder.specs.Built.{on_parser, unfostered}
use Rattle.tree_builder.specs.Characters.{parted_text}
use Rattle.tree_builder.proofs.RunActions.{others_fostered}
use Rattle.tree_builder.proofs.builder.Builder.foster_others.Goals as goal

pub returns-clause-parser : goal.returns-clause-parser
returns-clause-parser g c =
    c.set_frameset_not_ok.ensures ∙ (ap (on_parser not_frameset_ok) c.disable_fostering.ensures
    ∙ (ap (λ b. on_parser not_frameset_ok (on_parser unfostered b)) c.in_ok-insert_parted_text.ensures
    ∙ (ap (λ b. on_parser not_frameset_ok (on_parser unfostered (on_parser (parted_text c.args.text.now) b))) c.in_ok-reconstruct_fostered.ensures.parser
    ∙ ap (λ q. record c.args.self.now { parser = q }) (sym (others_fostered c.args.text.now c.args.self.now.parser c.requires.some c.requires.all)))))
