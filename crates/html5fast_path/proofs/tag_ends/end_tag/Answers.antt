use Rattle.std.proofs.Common.{[], ap, sym, ◌∙◌}
use Rattle.html5ever_interface.specs.Token.{TagOf}
use Rattle.html5reading.specs.Reading.Here.{TellsTag}
use Rattle.html5partial.specs.CurrentTag.{open_tag}
use Rattle.html5fast_path.proofs.TagEnds.{closing-quiet}
use Rattle.html5fast_path.proofs.tag_ends.end_tag.Goals as goal

pub returns-clause-ends : goal.returns-clause-ends
returns-clause-ends g c = λ _ exact.
    c.in-Some.ensures exact
    ∙ closing-quiet (open_tag c.args.at.now.tag) _ c.in-Some.self_closing _ c.if-not-branch.false c.in_ok-keep_attribute.ensures.kept
    (c.in_ok-keep_attribute.ensures.finished c.if-not-branch.false) (c.is_faultless.ensures c.if-not-is_faultless.false)
    ∙ ap (λ (tag : TagOf). TellsTag [] tag) (sym c.set_self_closing.ensures)
