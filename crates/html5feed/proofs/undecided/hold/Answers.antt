use Rattle.std.proofs.Common.{◌-◌, take, length, sym}
use Rattle.html5reading.proofs.AfterSemicolon.{undecided-after}
use Rattle.html5feed.proofs.undecided.hold.Goals as goal

pub returns-then-is_ended_name-clause-undecided : goal.returns-then-is_ended_name-clause-undecided
returns-then-is_ended_name-clause-undecided g c =
    let held = c.args.held.now in
    let ended = c.is_ended_name.ensures c.if-is_ended_name.true in
    sym (undecided-after c.args.references.now held (take (length held - 1) held) c.args.c c.table_laws.ensures ended.no_number ended.ends)
