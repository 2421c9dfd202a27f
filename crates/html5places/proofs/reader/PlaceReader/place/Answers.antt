use Rattle.std.proofs.Common.{◌∙◌, ap}
use Rattle.html5places.proofs.ManyCharacters.{to-stands}
use Rattle.html5places.proofs.reader.PlaceReader.place.Goals as goal

pub returns-clause-bytes : goal.returns-clause-bytes
returns-clause-bytes g c = λ B before there.
    c.place_of.ensures ∙ ap (λ r. r.reading.marks.to) c.self.view_is ∙ to-stands c.args.self.now.reading B before there
