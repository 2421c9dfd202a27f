use Rattle.std.proofs.Common.{◌≡◌, ◌++◌, map, drop}
use Rattle.html5check.specs.Templates.{construct_by, mask_by, masked_from, outside}
use Rattle.html5check.proofs.template.masked.Given as goal

abbrev pub invariant-loop-i : goal.invariant-loop-i
invariant-loop-i l =
    l.bytes.items ++ masked_from (map construct_by l.constructs) (mask_by l.mask) (drop l.i l.text)
    ≡ masked_from (map construct_by l.constructs) outside l.text
