use Rattle.std.proofs.lemmas.Str.{IsCharBoundary-from_drop}
use Rattle.html5partial.specs.CurrentTag.{opened_of}
use Rattle.html5fast_path.proofs.Beginnings.{front-append}
use Rattle.html5fast_path.proofs.texts.read_value.Goals as goal

pub returns-then-opening-eq0-clause-reads : goal.returns-then-opening-eq0-clause-reads
returns-then-opening-eq0-clause-reads g c = rw c.if-opening-eq0.true at c.open_value-opening.ensures.reads

pub range_from-requires : goal.range_from-requires
range_from-requires g c =
    let opening = c.open_value-opening.ensures.reads in λ some. IsCharBoundary-from_drop c.args.text.now c.open_value-opening.result opening.within opening.rest_utf8

pub returns-clause-reads : goal.returns-clause-reads
returns-clause-reads g c =
    front-append c.args.text.now c.open_value-opening.result c.in_ok-value.value _ (opened_of c.open_value-opening.new.at) _ c.utf8.text c.open_value-opening.ensures.reads
    (rw c.range_from.ensures.value at c.in_ok-value.ensures.reads)
