use Rattle.std.proofs.Common.{refl, sym, ◌∙◌, ap}
use Rattle.std.specs.Str.{chars}
use Rattle.std.proofs.lemmas.Bool.{not-true}
use Rattle.std.proofs.lemmas.Str.{IsCharBoundary-from_drop}
use Rattle.html5reading.specs.Start.Open.{InTag}
use Rattle.html5reading.specs.Start.Place.{InAttributeName}
use Rattle.html5reading.specs.Tag.{with_last_attribute, with_last_name}
use Rattle.html5partial.specs.CurrentTag.{open_tag, opened_of}
use Rattle.markup5ever.proofs.BufferQueueLemmas.{range_from_start}
use Rattle.html5fast_path.proofs.Beginnings.{front-nothing}
use Rattle.html5fast_path.proofs.WholeNames.{reads-attribute_name}
use Rattle.html5fast_path.proofs.names.read_attribute_name.Goals as goal

pub returns-then-bytes-eq0-clause-reads : goal.returns-then-bytes-eq0-clause-reads
returns-then-bytes-eq0-clause-reads g c = front-nothing _ _ _ c.utf8.text refl

pub range-requires-clause-end_boundary : goal.range-requires-clause-end_boundary
range-requires-clause-end_boundary g c =
    let name = c.name_len-bytes.ensures.name c.if-bytes-eq0.false in
    IsCharBoundary-from_drop c.args.text.now c.name_len-bytes.result name.outside.within name.outside.rest_utf8

pub returns-then-not-branch-clause-reads : goal.returns-then-not-branch-clause-reads
returns-then-not-branch-clause-reads g c = front-nothing _ _ _ c.utf8.text (ap opened_of (sym (c.in_ok-begin_attribute.ensures.unchanged c.if-not-branch.true)))

pub returns-clause-reads : goal.returns-clause-reads
returns-clause-reads g c =
    let text = c.args.text.now in
    let bytes = c.name_len-bytes.result in
    let tag = open_tag c.args.at.now.tag in
    let begins = c.in_ok-begin_attribute.ensures in
    reads-attribute_name tag c.attribute_name_ends.result _ text bytes _ _ refl c.attribute_name_ends.ensures (c.name_len-bytes.ensures.name c.if-bytes-eq0.false)
    (not-true _ (sym begins.begins ∙ c.if-not-branch.false)) c.requires
    (begins.begun c.if-not-branch.false
    ∙ ap (λ t. InTag InAttributeName (with_last_name (with_last_attribute tag) (chars t))) (c.range.ensures.value ∙ range_from_start text bytes))
