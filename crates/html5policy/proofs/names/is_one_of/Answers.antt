use Rattle.std.proofs.Common.{sym, ◌∙◌, string_bytes, rules}
use Rattle.std.specs.Str.{bytes_eq}
use Rattle.html5policy.specs.Names.{is_one_of}
use Rattle.html5policy.proofs.Searches.{any-here}
use Rattle.html5policy.proofs.names.is_one_of.Goals as goal

pub returns-then-eq : goal.returns-then-eq
unfolding is_one_of
returns-then-eq g c =
    sym (c.loop-other.invariant
    ∙ any-here string_bytes (λ o. bytes_eq o c.args.name.now) c.loop-other.other-index c.args.names.now c.other-item.result c.loop-other-test.true c.other-item.is (search rules))
