use Rattle.std.proofs.Common.{◌<◌, length, get_or, take, arith}
use Rattle.std.proofs.lemmas.List.{take_more, take_all}
use Rattle.std.proofs.lemmas.List.Elements.{All-get_or}
use Rattle.markup5ever.proofs.SmallCharSetLemmas.{IsMember-push}
use Rattle.markup5ever.proofs.small_char_set.SmallCharSet.of.Goals as goal

pub loop-member-preserved : goal.loop-member-preserved
loop-member-preserved c =
    let members = c.args.members.now in
    let i = c.loop-member.member-index in
    let in_range : i < length members = c.loop-member-test.true in
    let within : get_or members i 0 < 64 = All-get_or (λ m. m < 64) members i 0 in_range c.requires in
    rw (take_more members i 0) (IsMember-push c.loop-member.bits (get_or members i 0) (take i members) within c.loop-member.invariant)

pub returns : goal.returns
returns c =
    let members = c.args.members.now in
    rw (take_all c.loop-member.member-index members (omega arith)) at c.loop-member.invariant
