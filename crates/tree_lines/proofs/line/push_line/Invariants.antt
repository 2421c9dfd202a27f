use Rattle.std.proofs.Common.{◌≡◌, ◌++◌, drop}
use Rattle.std.specs.Prelude.{flat_map}
use Rattle.tree_lines.proofs.line.push_line.Given as goal

abbrev pub invariant-loop-part : goal.invariant-loop-part
invariant-loop-part g l =
    l.output.items ++ flat_map (λ part. part.now) (drop l.part-index l.parts)
    ≡ l.initial.output.items ++ flat_map (λ part. part.now) l.parts
