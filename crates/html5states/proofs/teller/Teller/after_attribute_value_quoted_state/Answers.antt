use Rattle.std.proofs.Common.{sym, ◌∙◌}
use Rattle.std.proofs.lemmas.Bool.{ne_eqb}
use Rattle.html5reading.proofs.Steps.{part-after_quoted}
use Rattle.html5partial.specs.CurrentTag.{open_tag}
use Rattle.html5states.proofs.teller.Teller.after_attribute_value_quoted_state.Goals as goal

pub returns : goal.returns
returns g c =
    rw (part-after_quoted c.args.self.now.exact_errors (open_tag c.args.at.now.tag) c.args.c (ne_eqb _ _ c.if-c-eq62.false) (ne_eqb _ _ c.if-c-eq47.false) (sym c.is_white_space.ensures ∙ c.if-is_white_space.false))
    c.read_before_attribute.ensures
