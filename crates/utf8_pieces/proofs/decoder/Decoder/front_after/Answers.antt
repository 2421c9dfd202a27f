-- The front ends where the bytes stop being UTF-8: the tactic doesn't compose `take` there.
use Rattle.std.proofs.Common.{ap, ◌++◌, ◌∙◌}
use Rattle.utf8_pieces.proofs.Fronts.{EndsAtFault-after}
use Rattle.utf8_pieces.proofs.decoder.Decoder.front_after.Goals as goal

pub returns-clause-front : goal.returns-clause-front
returns-clause-front g c =
    let w = c.whole_len-len in
    EndsAtFault-after c.args.self.now c.hold.new.self c.args.first.now c.args.bytes.now _ w.result c.utf8.first c.requires w.ensures.text w.ensures.longest
    (c.in_ok-text.ensures ∙ ap (λ t. c.args.first.now ++ t) c.from_utf8_unchecked-second.ensures)
    c.hold.ensures.held c.hold.ensures.taken
