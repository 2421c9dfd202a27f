use Rattle.std.proofs.Common.{ℕ, ◌+◌, ◌++◌, length, refl, ap, ◌∙◌}
use Rattle.std.proofs.lemmas.List.{take_rest}
use Rattle.std.proofs.lemmas.Result.{err_from_is_err_and}
use Rattle.utf8_pieces.specs.Pieces.{Decoding, place_after}
use Rattle.utf8_pieces.specs.declared.error.DecodeError.TheVariants.{NotUtf8}
use Rattle.utf8_pieces.proofs.Fronts.{Decodes-ok, Decodes-refused, Decodes-memory}
use Rattle.utf8_pieces.proofs.decoder.Decoder.decode_after.Goals as goal

pub returns-in-Err : goal.returns-in-Err
returns-in-Err g c =
    let taken = ap (λ (d : Decoding). d.taken) c.self.view_is in
    let place = c.place_after.ensures ∙ ap (λ (t : ℕ). place_after t (length c.args.first.now + c.in-Err.valid)) taken in
    Decodes-refused c.args.self.now c.args.self.now c.args.first.now c.args.bytes.now c.in-Err.valid _ c.utf8.first c.in-Err.ensures.valid
    c.in-Err.ensures.refused (ap NotUtf8 place) refl

pub returns-in_err-text : goal.returns-in_err-text
returns-in_err-text g c =
    let p = err_from_is_err_and c.from_residual.result c.from_residual.ensures.1 in
    rw p.1
    (Decodes-memory c.args.self.now c.args.self.now c.args.first.now c.args.bytes.now c.in-Ok.len p.0 c.utf8.first c.in-Ok.ensures.text p.2 refl)

pub returns : goal.returns
returns g c =
    let second = ap (λ t. c.args.first.now ++ t) c.from_utf8_unchecked-second.ensures in
    Decodes-ok c.args.self.now c.hold.new.self c.args.first.now c.args.bytes.now c.in-Ok.len c.in_ok-text.text c.utf8.first c.in-Ok.ensures.text
    (c.in_ok-text.ensures ∙ second) (c.hold.ensures.held ∙ take_rest c.args.bytes.now c.in-Ok.len) c.hold.ensures.taken
