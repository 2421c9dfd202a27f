use Rattle.std.proofs.Common.{◌≡◌, ◌++◌, drop}
use Rattle.std.specs.List.{flat_map}
use Rattle.html5extract.specs.Links.{kept}
use Rattle.html5extract.proofs.links.push_link.Given as goal

abbrev pub invariant-loop-byte : goal.invariant-loop-byte
invariant-loop-byte g l = l.line.items ++ flat_map kept (drop l.byte-index l.link) ≡ l.initial.line.items ++ flat_map kept l.link
