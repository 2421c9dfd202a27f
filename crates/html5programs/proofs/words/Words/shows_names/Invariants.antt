use Rattle.std.proofs.Common.{◌≡◌, map, drop}
use Rattle.html5programs.specs.Words.{given_of, naming_of}
use Rattle.html5programs.proofs.words.Words.shows_names.Given as goal

abbrev pub invariant-loop-given : goal.invariant-loop-given
invariant-loop-given g l = naming_of (map given_of l.self.given.items) ≡ naming_of (map given_of (drop l.given-index l.self.given.items))
