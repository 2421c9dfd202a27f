-- Each answer says where the bytes are cut, and composes `take` and `drop` there, which the tactic doesn't.
use Rattle.std.proofs.Common.{◌≡◌, ◌-◌, [], ◌++◌, length, take, sym, ap, ◌∙◌, arith, inr}
use Rattle.std.proofs.lemmas.List.{take_rest}
use Rattle.std.proofs.lemmas.Result.{on_ok_weaker}
use Rattle.utf8_pieces.specs.Pieces.{Decoding, place_after}
use Rattle.utf8_pieces.specs.declared.error.DecodeError.TheVariants.{NotUtf8}
use Rattle.utf8_pieces.proofs.Cuts.{length-IsCutCharacter}
use Rattle.utf8_pieces.proofs.Fronts.{Decodes-same, IsNeverUtf8-four, IsValidUpTo-four, all_of_front, all_of_short, none_of_full, past_held}
use Rattle.utf8_pieces.proofs.decoder.Decoder.decode.Goals as goal

pub returns-then-is_complete : goal.returns-then-is_complete
returns-then-is_complete g c =
    let none : c.args.self.now.held ≡ [] = c.is_complete.ensures.complete.0 c.if-is_complete.true in
    let call = c.decode_after in
    let d = Decodes-same c.args.self.now call.new.self c.args.bytes.now _ call.result (ap (λ t. t ++ c.args.bytes.now) (sym none)) call.ensures in
    record {
      text = d.text;
      cut = d.cut;
      few = on_ok_weaker call.result (length-IsCutCharacter call.new.self.held) d.cut;
      taken = d.taken;
      fault = d.fault;
      refused = d.refused;
      unchanged = d.unchanged;
    }

pub overflow_sub-first : goal.overflow_sub-first
overflow_sub-first g c =
    let held = take c.self.inside.count c.self.inside.bytes in
    let w = c.whole_len-first in
    past_held held c.args.bytes.now c.joined-front.result c.joined_len-len.result w.result c.self.invariant.1 c.joined-front.ensures w.ensures.within
    w.ensures.text (omega arith)

pub returns-then-first-gt0 : goal.returns-then-first-gt0
returns-then-first-gt0 g c =
    let held = take c.self.inside.count c.self.inside.bytes in
    let w = c.whole_len-first in
    let past = past_held held c.args.bytes.now c.joined-front.result c.joined_len-len.result w.result c.self.invariant.1 c.joined-front.ensures
    w.ensures.within w.ensures.text (omega arith) in
    let all = all_of_front held c.args.self.now.held c.args.bytes.now c.joined-front.result _ _ c.joined_len-len.result w.result
    (ap (λ (d : Decoding). d.held) c.self.view_is) c.from_utf8_unchecked-text.ensures (take_rest c.args.bytes.now (w.result - length held))
    c.joined-front.ensures w.ensures.within past in
    let call = c.decode_after-then-first-gt0 in
    let d = Decodes-same c.args.self.now call.new.self _ _ call.result all call.ensures in
    record {
      text = d.text;
      cut = d.cut;
      few = on_ok_weaker call.result (length-IsCutCharacter call.new.self.held) d.cut;
      taken = d.taken;
      fault = d.fault;
      refused = d.refused;
      unchanged = d.unchanged;
    }

pub returns-then-len-lt4 : goal.returns-then-len-lt4
returns-then-len-lt4 g c =
    let held = take c.self.inside.count c.self.inside.bytes in
    let all = all_of_short held c.args.self.now.held c.args.bytes.now c.joined-front.result c.joined_len-len.result
    (ap (λ (d : Decoding). d.held) c.self.view_is) c.joined-front.ensures c.joined_len-len.ensures c.if-len-lt4.true in
    let call = c.decode_after-then-len-lt4 in
    let d = Decodes-same c.args.self.now call.new.self _ _ call.result all call.ensures in
    record {
      text = d.text;
      cut = d.cut;
      few = on_ok_weaker call.result (length-IsCutCharacter call.new.self.held) d.cut;
      taken = d.taken;
      fault = d.fault;
      refused = d.refused;
      unchanged = d.unchanged;
    }

pub returns-clause-fault : goal.returns-clause-fault
returns-clause-fault g c =
    let held = take c.self.inside.count c.self.inside.bytes in
    let none = none_of_full held c.args.self.now.held c.args.bytes.now c.joined-front.result c.joined_len-len.result c.whole_len-first.result
    (ap (λ (d : Decoding). d.held) c.self.view_is) c.joined-front.ensures c.joined_len-len.ensures c.if-len-lt4.false c.if-first-gt0.false
    c.whole_len-first.ensures.longest in
    let place : c.self.inside.taken ≡ place_after c.self.inside.taken 0 = omega arith in
    inr (record {
      valid_len = 0;
      valid = IsValidUpTo-four (c.args.self.now.held ++ c.args.bytes.now) none.0 none.1;
      named = ap NotUtf8 (place ∙ ap (λ t. place_after t 0) (ap (λ (d : Decoding). d.taken) c.self.view_is));
    })

pub returns-clause-refused : goal.returns-clause-refused
returns-clause-refused g c =
    let held = take c.self.inside.count c.self.inside.bytes in
    let none = none_of_full held c.args.self.now.held c.args.bytes.now c.joined-front.result c.joined_len-len.result c.whole_len-first.result
    (ap (λ (d : Decoding). d.held) c.self.view_is) c.joined-front.ensures c.joined_len-len.ensures c.if-len-lt4.false c.if-first-gt0.false
    c.whole_len-first.ensures.longest in
    ((λ _. IsNeverUtf8-four (c.args.self.now.held ++ c.args.bytes.now) none.0 none.1), λ _ memory. cc memory)
