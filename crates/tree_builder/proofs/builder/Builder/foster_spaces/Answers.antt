use Rattle.std.proofs.Common.{ap, sym, ◌∙◌}
use Rattle.tree_builder.specs.Built.{on_parser, unfostered}
use Rattle.tree_builder.specs.Characters.{parted_text}
use Rattle.tree_builder.proofs.RunActions.{spaces_fostered}
use Rattle.tree_builder.proofs.builder.Builder.foster_spaces.Goals as goal

pub returns-clause-parser : goal.returns-clause-parser
returns-clause-parser g c =
    c.disable_fostering.ensures ∙ (ap (on_parser unfostered) c.in_ok-insert_parted_text.ensures
    ∙ (ap (λ b. on_parser unfostered (on_parser (parted_text c.args.text.now) b)) c.in_ok-reconstruct_fostered.ensures.parser
    ∙ ap (λ q. record c.args.self.now { parser = q }) (sym (spaces_fostered c.args.text.now c.args.self.now.parser c.requires.some c.requires.all))))
