use Rattle.std.proofs.Common.{sym, string_bytes, rules}
use Rattle.std.specs.Str.{bytes_eq}
use Rattle.html5policy.specs.Names.{is_one_of}
use Rattle.html5policy.proofs.Searches.{any-at}
use Rattle.html5policy.proofs.names.is_one_of_by_guess.Goals as goal

pub returns-then-eq : goal.returns-then-eq
unfolding is_one_of
returns-then-eq g c =
    sym (any-at string_bytes (λ o. bytes_eq o c.args.name.now) c.args.guess c.args.names.now c.index-names-guess.result c.if-guess-names.true c.index-names-guess.is (search rules))
