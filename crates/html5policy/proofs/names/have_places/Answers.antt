use Rattle.std.proofs.Common.{sym, ◌∙◌, string_bytes, rules}
use Rattle.html5policy.specs.Names.{has_place}
use Rattle.html5policy.proofs.Searches.{all-here}
use Rattle.html5policy.proofs.names.have_places.Goals as goal

pub returns-then-not-has_place : goal.returns-then-not-has_place
returns-then-not-has_place g c =
    sym (c.loop-name.invariant
    ∙ all-here string_bytes has_place c.loop-name.name-index c.args.names.now c.name-item.result (search rules) c.name-item.is (search rules))
