use Rattle.std.proofs.Common.{◌≡◌, ◌++◌, map, drop}
use Rattle.html5check.specs.Faults.{attribute_findings, finding_by}
use Rattle.html5check.specs.Seen.{seen_by}
use Rattle.markup5ever.specs.Names.{attribute_of}
use Rattle.html5check.proofs.token_findings.push_misspelled_attributes.Given as goal

abbrev pub invariant-loop-attribute : goal.invariant-loop-attribute
invariant-loop-attribute l =
    map finding_by l.found.items ++ attribute_findings (seen_by l.seen) (map attribute_of (drop l.attribute-index l.attributes))
    ≡ map finding_by l.initial.found.items ++ attribute_findings (seen_by l.seen) (map attribute_of l.attributes)
