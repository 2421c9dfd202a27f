use Rattle.html5session.proofs.Writing.{on_end, on_end_refused, on_feed, on_refused}
use Rattle.html5session.proofs.laws.records_wait_on.Goals as goal

pub returns : goal.returns
returns c = record { feeds = on_feed; feed_refused = on_refused; ends = on_end; end_refused = on_end_refused }
