use Rattle.std.proofs.Common.{◌≡◌, drop, map, string_bytes}
use Rattle.std.specs.List.{list_all}
use Rattle.html5policy.specs.Names.{has_place}
use Rattle.html5policy.proofs.names.have_places.Given as goal

-- each before this one has a place
abbrev pub invariant-loop-name : goal.invariant-loop-name
invariant-loop-name g l = list_all has_place (map string_bytes l.names) ≡ list_all has_place (map string_bytes (drop l.name-index l.names))
