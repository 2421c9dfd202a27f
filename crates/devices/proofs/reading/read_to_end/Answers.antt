use Rattle.std.proofs.Common.{rules}
use Rattle.devices.proofs.KnownBytes.{Consumes-grown, ConsumesBeginning-after}
use Rattle.devices.proofs.reading.read_to_end.Goals as goal

pub returns-in_err-read_more-clause-in_order : goal.returns-in_err-read_more-clause-in_order
returns-in_err-read_more-clause-in_order g c =
    ConsumesBeginning-after _ _ _ _ c.loop-bytes.invariant.consumed c.in_err-read_more.ensures.err

pub loop-bytes-preserved : goal.loop-bytes-preserved
loop-bytes-preserved g c = record {
  consumed = Consumes-grown _ _ _ _ _ c.read_more.ensures.appends c.loop-bytes.invariant.consumed c.in_ok-read_more.ensures.ok;
  no_failure = search rules;
  room = search rules;
}
