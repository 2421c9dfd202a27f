use Rattle.std.proofs.lemmas.Bool.{ne_eqb}
use Rattle.html5reading.proofs.Steps.{part-after_solidus}
use Rattle.html5partial.specs.CurrentTag.{open_tag}
use Rattle.html5states.proofs.teller.Teller.self_closing_start_tag_state.Goals as goal

pub returns : goal.returns
returns g c =
    rw (part-after_solidus c.args.self.now.exact_errors (open_tag c.args.at.now.tag) c.args.c (ne_eqb _ _ c.if-c-eq62.false))
    c.read_before_attribute.ensures
