use Rattle.html5handle.specs.Slots.{placed_in, session_in}
use Rattle.html5handle.proofs.Statuses.{opened}
use Rattle.html5handle.proofs.opening.slot_of.Goals as goal

pub returns-clause-refused : goal.returns-clause-refused
returns-clause-refused c =
    let is = opened c.args.options.now.places (session_in c.in-Ok.page) (placed_in c.in-Ok.page) c.args.last_start_tag.now c.args.options.now c.in-Ok.ensures.starts in
    (is.named, is.utf8)
