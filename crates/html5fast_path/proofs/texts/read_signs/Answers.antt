use Rattle.std.proofs.lemmas.Str.{IsCharBoundary-from_drop}
use Rattle.html5partial.specs.CurrentTag.{opened_of}
use Rattle.html5fast_path.proofs.Beginnings.{front-append}
use Rattle.html5fast_path.proofs.texts.read_signs.Goals as goal

pub range_from-requires : goal.range_from-requires
range_from-requires g c =
    let sign = c.read_first_sign-sign.ensures.reads in λ some. IsCharBoundary-from_drop c.args.text.now c.read_first_sign-sign.result sign.within sign.rest_utf8

pub returns-clause-reads : goal.returns-clause-reads
returns-clause-reads g c =
    front-append c.args.text.now c.read_first_sign-sign.result c.read_first_sign-solidus.result _ (opened_of c.read_first_sign-sign.new.at) _ c.utf8.text c.read_first_sign-sign.ensures.reads
    (rw c.range_from.ensures.value at c.read_first_sign-solidus.ensures.reads)
