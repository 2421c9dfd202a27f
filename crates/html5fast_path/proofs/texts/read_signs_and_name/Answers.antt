use Rattle.std.proofs.lemmas.Str.{IsCharBoundary-from_drop}
use Rattle.html5partial.specs.CurrentTag.{opened_of}
use Rattle.html5fast_path.proofs.Beginnings.{front-append}
use Rattle.html5fast_path.proofs.texts.read_signs_and_name.Goals as goal

pub range_from-requires : goal.range_from-requires
range_from-requires g c =
    let signs = c.read_signs-signs.ensures.reads in λ some. IsCharBoundary-from_drop c.args.text.now c.read_signs-signs.result signs.within signs.rest_utf8

pub returns-clause-reads : goal.returns-clause-reads
returns-clause-reads g c =
    front-append c.args.text.now c.read_signs-signs.result c.in_ok-name.name _ (opened_of c.read_signs-signs.new.at) _ c.utf8.text c.read_signs-signs.ensures.reads
    (rw c.range_from.ensures.value at c.in_ok-name.ensures.reads)
