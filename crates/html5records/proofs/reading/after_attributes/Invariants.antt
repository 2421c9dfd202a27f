use Rattle.std.proofs.Common.{◌≡◌, ◌-◌}
use Rattle.html5records.specs.Reading.{after_attributes}
use Rattle.html5records.proofs.reading.after_attributes.Given as goal

abbrev pub invariant-loop : goal.invariant-loop
invariant-loop l = after_attributes (l.count - l.counter) l.rest ≡ after_attributes l.count l.bytes
