use Rattle.std.proofs.Common.{ap, ◌∙◌, sym}
use Rattle.html5cleaner.specs.Counts.{count_of, occurrences}
use Rattle.html5cleaner.specs.Open.{names_of}
use Rattle.html5cleaner.proofs.open_elements.OpenElements.none.Goals as goal

pub invariant_of-result : goal.invariant_of-result
unfolding count_of occurrences
invariant_of-result g c = λ name. ap (λ counts. count_of counts name) c.new-2.ensures.items ∙ sym (ap (λ names. occurrences (names_of names) name) c.new.ensures.items)
