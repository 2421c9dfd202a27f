use Rattle.std.proofs.Common.{refl, ◌∙◌, ap}
use Rattle.std.specs.Str.{chars}
use Rattle.std.proofs.lemmas.Str.{IsCharBoundary-from_drop}
use Rattle.html5reading.specs.Start.{begun}
use Rattle.html5reading.specs.Start.Open.{InTag}
use Rattle.html5reading.specs.Start.Place.{InName}
use Rattle.html5reading.specs.Tag.{with_name}
use Rattle.markup5ever.proofs.BufferQueueLemmas.{range_from_start}
use Rattle.html5fast_path.proofs.Beginnings.{front-nothing}
use Rattle.html5fast_path.proofs.WholeNames.{reads-tag_name}
use Rattle.html5fast_path.proofs.names.read_tag_name.Goals as goal

pub returns-then-bytes-eq0-clause-reads : goal.returns-then-bytes-eq0-clause-reads
returns-then-bytes-eq0-clause-reads g c = front-nothing _ _ _ c.utf8.text refl

pub range-requires-clause-end_boundary : goal.range-requires-clause-end_boundary
range-requires-clause-end_boundary g c =
    let name = c.name_len-bytes.ensures.name c.if-bytes-eq0.false in
    IsCharBoundary-from_drop c.args.text.now c.name_len-bytes.result name.outside.within name.outside.rest_utf8

pub returns-clause-reads : goal.returns-clause-reads
returns-clause-reads g c =
    let text = c.args.text.now in
    let bytes = c.name_len-bytes.result in
    reads-tag_name c.args.kind c.tag_name_ends.result _ text bytes _ _ refl c.tag_name_ends.ensures (c.name_len-bytes.ensures.name c.if-bytes-eq0.false) c.requires
    (c.in_ok-begin_tag.ensures.begun ∙ ap (λ t. InTag InName (with_name (begun c.args.kind) (chars t))) (c.range.ensures.value ∙ range_from_start text bytes))
