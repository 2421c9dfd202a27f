use Rattle.std.proofs.Common.{ap, sym, refl, ◌∙◌, string_bytes}
use Rattle.html5ever_interface.specs.Token.{TagOf}
use Rattle.html5reading.specs.Start.{OpenTag}
use Rattle.html5reading.specs.Machine.{tag_name_end_step}
use Rattle.html5partial.proofs.HeldLetters.{tag_name_step-ends}
use Rattle.html5states.proofs.Tellings.{reads_as}
use Rattle.html5states.proofs.teller.Teller.create_end_tag.Goals as goal

pub returns : goal.returns
returns g c =
    let begun_as : TagOf → OpenTag = λ tag. record {
      kind = tag.kind;
      name = tag.name;
      attributes = tag.attributes;
      had_duplicate_attributes = tag.had_duplicate_attributes;
      last_name = string_bytes c.begin.new.self.attr_name;
      last_value = string_bytes c.begin.new.self.attr_value;
    } in
    reads_as c.tag_name_state.ensures
    (ap (λ (t : OpenTag). tag_name_end_step (record t { name = string_bytes c.args.name }) c.args.c) (sym c.begin.ensures)
    ∙ ap (λ tag. tag_name_end_step (begun_as tag) c.args.c) (sym c.set_name.ensures)
    ∙ sym (tag_name_step-ends c.args.self.now.exact_errors _ c.args.c c.requires))
    refl
