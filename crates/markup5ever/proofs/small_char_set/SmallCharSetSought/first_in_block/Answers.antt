use Rattle.markup5ever.proofs.SmallCharSetLemmas.{NoneWithin-unmarked, member_marked}
use Rattle.markup5ever.proofs.small_char_set.SmallCharSetSought.first_in_block.Goals as goal

pub returns-clause-none_before : goal.returns-clause-none_before
returns-clause-none_before c =
    let first = c.first_marked in
    rw (← c.self.view_is) (NoneWithin-unmarked c.self.inside.bits c.args.bytes.now c.args.at c.marks.result first.result first.ensures.within c.marks.ensures first.ensures.unmarked)

pub returns-clause-stops : goal.returns-clause-stops
returns-clause-stops c =
    let first = c.first_marked in
    rw (← c.self.view_is) (member_marked c.self.inside.bits c.args.bytes.now c.args.at c.marks.result first.result c.marks.ensures first.ensures.marked)
