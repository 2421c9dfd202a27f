use Rattle.std.proofs.Common.{◌≡◌, true, [], ◌∷◌, ◌++◌, string_bytes, sym, ap, ◌∙◌, subst}
use Rattle.std.specs.Prelude.{encode_utf8_all, OnOk}
use Rattle.std.proofs.lemmas.Result.{on_err_weaker}
use Rattle.std.proofs.lemmas.Str.{IsUtf8-string_bytes}
use Rattle.html5write.specs.Pieces.{piece_text, can_write}
use Rattle.html5write.specs.Writing.{IsTextOf, piece_of}
use Rattle.html5write.proofs.Grown.{front_cut}
use Rattle.html5write.proofs.PiecesLemmas.{written-more}
use Rattle.html5write.proofs.Refused.{can-write}
use Rattle.html5write.proofs.writer.Writer.put.Goals as goal

pub whole_or_nothing-requires : goal.whole_or_nothing-requires
whole_or_nothing-requires g c =
    let written = c.push_to-appended.new.out in
    on_err_weaker c.push_to-appended.result
    (front_cut (string_bytes written) (string_bytes c.self.inside.written) c.len-len.result (IsUtf8-string_bytes written) (IsUtf8-string_bytes c.self.inside.written) (c.len-len.ensures ∙ c.self.inside.written.bytes.ok.0))
    c.push_to-appended.ensures.err

pub invariant_of-self-2 : goal.invariant_of-self-2
invariant_of-self-2 g c =
    let piece = piece_of c.args.piece.now in
    let after = string_bytes c.whole_or_nothing.new.out in
    let before = string_bytes c.self.inside.written in
    let appended = subst (λ r. OnOk r (string_bytes c.push_to-appended.new.out ≡ before ++ encode_utf8_all (piece_text piece))) (sym c.in_ok-whole_or_nothing.ensures.same) c.push_to-appended.ensures.ok in
    subst (λ pieces. IsTextOf after pieces)
    (sym (c.add.ensures ∙ ap (λ p. c.self.inside.trail.pieces ++ piece_of p ∷ []) c.piece.ensures.same))
    (written-more before after c.self.inside.trail.pieces piece c.self.invariant (c.in_ok-whole_or_nothing.ensures.ok ∙ appended) (subst (λ p. can_write (piece_of p) ≡ true) c.piece.ensures.same (can-write (piece_of c.piece.result) c.piece.ensures.writable)))
