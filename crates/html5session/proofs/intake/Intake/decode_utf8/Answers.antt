use Rattle.std.proofs.Common.{string_bytes, ◌++◌, sym, subst}
use Rattle.std.proofs.lemmas.Str.{IsUtf8-string_bytes}
use Rattle.utf8_pieces.specs.Pieces.{Decoding, IsNeverUtf8}
use Rattle.html5session.proofs.Calls.{decoded_all, decoded_front}
use Rattle.html5session.proofs.intake.Intake.decode_utf8.Goals as goal

pub decode_front-requires : goal.decode_front-requires
decode_front-requires g c =
    let said = c.in-Err-NotUtf8.ensures in
    let is = c.in-Err-NotUtf8.field-0-is in
    subst (λ (d : Decoding). IsNeverUtf8 (d.held ++ c.args.bytes.now)) (sym said.unchanged) (said.refused.0 (λ memory. cc (is, memory)))

pub returns-in-Ok-clause-ok : goal.returns-in-Ok-clause-ok
returns-in-Ok-clause-ok g c =
    let said = c.in-Ok.ensures in
    decoded_all _ _ c.decode.new.self _ (string_bytes c.in-Ok.text) c.self.view_is
    (record { parts = said.text; utf8 = IsUtf8-string_bytes c.in-Ok.text; cut = said.cut; taken = said.taken })

pub returns-in_ok-text-in-Err-NotUtf8-clause-ok : goal.returns-in_ok-text-in-Err-NotUtf8-clause-ok
returns-in_ok-text-in-Err-NotUtf8-clause-ok g c =
    let said = c.in-Err-NotUtf8.ensures in
    let is = c.in-Err-NotUtf8.field-0-is in
    decoded_front _ _ c.decode.new.self c.decode_front.new.self _ (string_bytes c.in_ok-text-in-Err-NotUtf8.text) c.self.view_is said.unchanged
    (said.refused.0 (λ memory. cc (is, memory))) c.in_ok-text-in-Err-NotUtf8.ensures.front
