use Rattle.std.proofs.Common.{◌≡◌, drop, map}
use Rattle.html5programs.specs.Words.{given_of, value_of}
use Rattle.html5programs.proofs.words.Words.value.Given as goal

abbrev pub invariant-loop-given : goal.invariant-loop-given
invariant-loop-given g l =
    value_of l.option (map given_of l.self.given.items) ≡ value_of l.option (map given_of (drop l.given-index l.self.given.items))
