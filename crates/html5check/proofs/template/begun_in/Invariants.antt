use Rattle.std.proofs.Common.{◌≡◌, map, drop}
use Rattle.html5check.specs.Templates.{begun_in, construct_by}
use Rattle.html5check.proofs.template.begun_in.Given as goal

abbrev pub invariant-loop-construct : goal.invariant-loop-construct
invariant-loop-construct l = begun_in (map construct_by l.constructs) l.text ≡ begun_in (map construct_by (drop l.construct-index l.constructs)) l.text
