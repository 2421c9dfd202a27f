use Rattle.std.proofs.Common.{◌≡◌, ℕ, ◌+◌, List, Option, Result, Ok, Err, IfErr, OnOk, OnErr, ap, ◌∙◌, inl, inr, arith, rules}
use Rattle.std.specs.Io.KnownBytes.{Appends}
use Rattle.devices.specs.Device.{AppendsBeginning, device_failures, reported_failures}
use Rattle.html5cli.specs.Ending.{TriesLine}
use Rattle.devices.specs.declared.fault.Fault.{Fault}
use Rattle.devices.specs.declared.fault.Fault.TheVariants.{Device}
use Rattle.html5cli.proofs.run.report.Goals as goal

TriesLine-write_all : {E : Type 0} (contents : E → Option (List ℕ)) (failures : E → ℕ) (before after : E) (line : List ℕ) (r : Result (Unit {0}) Fault) → OnOk r (Appends (contents before) (contents after) line) → OnErr r (AppendsBeginning (contents before) (contents after) line) → IfErr r (λ fault. fault ≡ Device) → failures after ≡ failures before + reported_failures r → TriesLine contents failures before after line
TriesLine-write_all contents failures before after line (Ok u) ok err device e = inl (omega (arith, e), ok)
TriesLine-write_all contents failures before after line (Err fault) ok err device e = inr (e ∙ ap (λ f. failures before + device_failures f) device, err)

pub returns-clause-line : goal.returns-clause-line
returns-clause-line g c =
    TriesLine-write_all g.E.Target.contents g.E.Target.failures _ _ _ c.write_all.result (search rules) (search rules) c.write_all.ensures.only_device c.write_all.ensures.failures
