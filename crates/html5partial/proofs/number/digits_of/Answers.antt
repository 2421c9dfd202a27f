use Rattle.std.proofs.Common.{sym, ◌∙◌}
use Rattle.std.proofs.lemmas.Str.{IsCharBoundary-after_ascii}
use Rattle.html5partial.proofs.Numbers.{x_first}
use Rattle.html5partial.proofs.number.digits_of.Goals as goal

pub range_from-requires : goal.range_from-requires
range_from-requires c =
    let x = x_first c.args.number.now (sym c.base_of.ensures.base ∙ c.if-base_of-eq16.true) in
    λ _. IsCharBoundary-after_ascii c.args.number.now 0 c.utf8.number x.0 x.1
