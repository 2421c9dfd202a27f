use Rattle.html5records.proofs.Recordings.{writes_on, closed_bytes-stepped, bytes-stepped}
use Rattle.html5records.proofs.record_sink.writes_records.Goals as goal

pub returns : goal.returns
returns c = record { on = writes_on; closed = closed_bytes-stepped; ended = bytes-stepped }
