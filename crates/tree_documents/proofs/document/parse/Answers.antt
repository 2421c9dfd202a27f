use Rattle.std.specs.Prelude.{string_bytes, ◌+◌}
use Rattle.std.specs.Str.{chars}
use Rattle.std.proofs.Common.{◌≡◌, ap, subst, ◌∙◌}
use Rattle.html5reading.specs.Start.{start_of}
use Rattle.html5states.specs.Telling.{faults_of}
use Rattle.tree_construction.specs.Text.{parser_of_text}
use Rattle.tree_sink.specs.Edited.{IsTold}
use Rattle.tree_documents.specs.Documents.{is_read_by, reading_from}
use Rattle.tree_documents.proofs.Whole.{said, told-whole}
use Rattle.tree_documents.proofs.document.parse.Goals as goal

pub returns-in-Ok : goal.returns-in-Ok
returns-in-Ok g c = λ options parser_is start_is.
    let b = c.new-builder.result in
    let read = c.read_whole-builder.result in
    let text = chars (string_bytes c.args.text) in
    let edits = (parser_of_text options (is_read_by c.args.references.now) text).page.edits in
    let none : read.0.faults ≡ 0 =
    c.read_whole-builder.ensures.faults ∙ (ap (λ r. b.faults + faults_of r) c.in-Ok.is ∙ ap (λ n. n + 0) c.new-builder.ensures.faults) in
    subst (λ first. IsTold g.S.TreeSink.means first edits c.into_sink-sink.result) c.new-builder.ensures.first
    (told-whole g.S.TreeSink.means options (is_read_by c.args.references.now) (start_of (reading_from c.args.initial_state)) b.state read.0.state
    c.into_sink-sink.result text start_is (c.new-builder.ensures.parser ∙ parser_is)
    (said _ read.1 c.in-Ok.field-0 c.in-Ok.is c.read_whole-builder.ensures.finishes)
    (c.into_sink-sink.ensures.told none))
