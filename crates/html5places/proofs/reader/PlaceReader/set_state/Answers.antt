use Rattle.std.proofs.Common.{◌∙◌, ap}
use Rattle.html5feed.specs.Starting.{in_state}
use Rattle.html5places.specs.Readers.{reading_of}
use Rattle.html5places.proofs.ManyCharacters.{stands-at_beginning}
use Rattle.html5places.proofs.reader.PlaceReader.set_state.Goals as goal

pub returns-clause-stands : goal.returns-clause-stands
returns-clause-stands g c =
    let was = c.detach-detached.ensures.whole ∙ c.replace.ensures.value in
    stands-at_beginning (reading_of c.attach.result)
    (record { start = in_state c.args.self.now.reading.position c.args.state; marks = c.args.self.now.reading.marks })
    (ap (λ t. t.position) c.attach.ensures
    ∙ ap (λ d. d.position) c.set_state.ensures
    ∙ ap (λ t. in_state t.position c.args.state) was
    ∙ ap (λ r. in_state r.reading.position c.args.state) c.self.view_is)
    (ap (λ t. t.sink.marks) c.attach.ensures
    ∙ ap (λ d. d.sink.marks) c.set_state.ensures
    ∙ ap (λ t. t.sink.marks) was
    ∙ ap (λ r. r.reading.marks) c.self.view_is)
