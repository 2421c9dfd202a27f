use Rattle.markup5ever.proofs.SmallCharSetLemmas.{BeginsOutside-bytes, member_past}
use Rattle.markup5ever.proofs.small_char_set.SmallCharSet.nonmember_prefix_len.Goals as goal

pub returns-clause-outside : goal.returns-clause-outside
returns-clause-outside c =
    rw c.as_bytes.ensures.value at (BeginsOutside-bytes c.args.self.now _ _ c.as_bytes.ensures.utf8 c.first_member.ensures)

pub returns-clause-stops : goal.returns-clause-stops
returns-clause-stops c =
    rw c.as_bytes.ensures.value at (member_past c.args.self.now _ _ c.as_bytes.ensures.utf8 c.first_member.ensures)
