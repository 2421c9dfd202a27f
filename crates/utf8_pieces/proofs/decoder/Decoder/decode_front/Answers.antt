-- Each answer says where the bytes are cut, as those of `decode` do.
use Rattle.std.proofs.Common.{◌-◌, ℕ, List, ◌++◌, length, take, sym, ap, subst, arith}
use Rattle.std.specs.Prelude.{string_bytes}
use Rattle.std.proofs.lemmas.List.{take_rest}
use Rattle.std.proofs.lemmas.Result.{IfOk-weaker}
use Rattle.utf8_pieces.specs.Pieces.{Decoding, EndsAtFault, IsNeverUtf8}
use Rattle.utf8_pieces.proofs.Fronts.{EndsAtFault-none, all_of_front, none_valid, past_held}
use Rattle.utf8_pieces.proofs.decoder.Decoder.decode_front.Goals as goal

pub front_after-requires : goal.front_after-requires
front_after-requires g c = subst (λ (h : List ℕ). IsNeverUtf8 (h ++ c.args.bytes.now)) (c.is_complete.ensures.complete.0 c.if-is_complete.true) c.requires

pub returns-then-is_complete-clause-front : goal.returns-then-is_complete-clause-front
returns-then-is_complete-clause-front g c =
    IfOk-weaker c.front_after.result _ _
    (λ text ends. subst (λ (h : List ℕ). EndsAtFault c.args.self.now c.front_after.new.self (h ++ c.args.bytes.now) (string_bytes text))
    (sym (c.is_complete.ensures.complete.0 c.if-is_complete.true)) ends)
    c.front_after.ensures.front

pub returns-then-first-eq0-clause-front : goal.returns-then-first-eq0-clause-front
returns-then-first-eq0-clause-front g c =
    let held = take c.self.inside.count c.self.inside.bytes in
    let w = c.whole_len-first in
    EndsAtFault-none c.args.self.now c.hold.new.self (c.args.self.now.held ++ c.args.bytes.now) _
    (none_valid held c.args.self.now.held c.args.bytes.now c.joined-front.result c.joined_len-len.result w.result
    (ap (λ (d : Decoding). d.held) c.self.view_is) c.joined-front.ensures c.joined_len-len.ensures (omega arith) c.requires w.ensures.longest)
    c.new.ensures.bytes c.hold.ensures.held c.hold.ensures.taken

pub overflow_sub-first : goal.overflow_sub-first
overflow_sub-first g c =
    let held = take c.self.inside.count c.self.inside.bytes in
    let w = c.whole_len-first in
    past_held held c.args.bytes.now c.joined-front.result c.joined_len-len.result w.result c.self.invariant.1 c.joined-front.ensures w.ensures.within
    w.ensures.text (omega arith)

pub front_after-requires-2 : goal.front_after-requires-2
front_after-requires-2 g c =
    let held = take c.self.inside.count c.self.inside.bytes in
    let w = c.whole_len-first in
    let past = past_held held c.args.bytes.now c.joined-front.result c.joined_len-len.result w.result c.self.invariant.1 c.joined-front.ensures
    w.ensures.within w.ensures.text (omega arith) in
    let all = all_of_front held c.args.self.now.held c.args.bytes.now c.joined-front.result _ _ c.joined_len-len.result w.result
    (ap (λ (d : Decoding). d.held) c.self.view_is) c.from_utf8_unchecked-text.ensures (take_rest c.args.bytes.now (w.result - length held))
    c.joined-front.ensures w.ensures.within past in
    subst IsNeverUtf8 (sym all) c.requires

pub returns-clause-front : goal.returns-clause-front
returns-clause-front g c =
    let held = take c.self.inside.count c.self.inside.bytes in
    let w = c.whole_len-first in
    let past = past_held held c.args.bytes.now c.joined-front.result c.joined_len-len.result w.result c.self.invariant.1 c.joined-front.ensures
    w.ensures.within w.ensures.text (omega arith) in
    let all = all_of_front held c.args.self.now.held c.args.bytes.now c.joined-front.result _ _ c.joined_len-len.result w.result
    (ap (λ (d : Decoding). d.held) c.self.view_is) c.from_utf8_unchecked-text.ensures (take_rest c.args.bytes.now (w.result - length held))
    c.joined-front.ensures w.ensures.within past in
    IfOk-weaker c.front_after-2.result _ _
    (λ text ends. subst (λ (b : List ℕ). EndsAtFault c.args.self.now c.front_after-2.new.self b (string_bytes text)) all ends)
    c.front_after-2.ensures.front
