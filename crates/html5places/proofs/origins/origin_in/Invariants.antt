use Rattle.std.proofs.Common.{◌≡◌, drop}
use Rattle.html5places.specs.Origins.{origin_of}
use Rattle.html5places.proofs.origins.origin_in.Given as goal

abbrev pub invariant-loop-stretch : goal.invariant-loop-stretch
invariant-loop-stretch l = origin_of l.stretches l.place ≡ origin_of (drop l.stretch-index l.stretches) l.left
