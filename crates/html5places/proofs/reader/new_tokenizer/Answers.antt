use Rattle.std.proofs.Common.{◌∙◌, ap}
use Rattle.html5ever_interface.specs.Options.{options_of}
use Rattle.html5reading.specs.Start.{start_of}
use Rattle.html5places.specs.Marks.{kept, placing_of}
use Rattle.html5places.proofs.WholeText.{stands-new}
use Rattle.html5places.proofs.reader.new_tokenizer.Goals as goal

pub returns-clause-stands : goal.returns-clause-stands
returns-clause-stands g c =
    stands-new c.new-2.result (start_of (options_of c.args.opts)) (placing_of kept c.new.result) c.new-2.ensures.stands
    (ap (λ s. s.marks) c.new-2.ensures.sink ∙ c.new.ensures.marks)
