-- The rest of the page's text is read, and then its end, unless that paused or was refused.
use Rattle.html5handle.proofs.Statuses.{decoded_ends, decoded_stops}
use Rattle.html5handle.proofs.ending.end_decoded.Goals as goal

pub returns-then-status-ne-DONE : goal.returns-then-status-ne-DONE
returns-then-status-ne-DONE c =
    decoded_stops c.end_bytes-session.result.1 c.args.session c.end_bytes-session.result.0 c.status_of_rest-status.result c.requires
    c.status_of_rest-status.ensures.ok c.status_of_rest-status.ensures.err c.end_bytes-session.ensures.over c.end_bytes-session.ensures.feeds
    c.end_bytes-session.ensures.refused c.if-status-ne-DONE.true

pub returns : goal.returns
returns c =
    decoded_ends c.end_bytes-session.result.1 c.args.session c.end_bytes-session.result.0 c.end_read.result.0 c.status_of_rest-status.result c.end_read.result.1
    c.requires c.status_of_rest-status.ensures.ok c.status_of_rest-status.ensures.err c.end_bytes-session.ensures.over c.end_bytes-session.ensures.feeds
    c.if-status-ne-DONE.false c.end_read.ensures
