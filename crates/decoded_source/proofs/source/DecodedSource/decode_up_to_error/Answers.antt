use Rattle.std.proofs.Common.{length, sym, ap, ◌∙◌, arith}
use Rattle.std.specs.Prelude.{encode_utf8_all}
use Rattle.html5encodings.specs.Decoding.{given_before_error, len_before_error, state_before_error}
use Rattle.decoded_source.proofs.Pieces.{Keeps-decoded_fatally}
use Rattle.decoded_source.proofs.source.DecodedSource.decode_up_to_error.Goals as goal

pub returns-clause-keeps : goal.returns-clause-keeps
returns-clause-keeps g c =
    let now = c.in-Some.decoder in
    let read = c.bytes.ensures ∙ ap (λ r. r.undecoded) c.self.view_is in
    let read_again = c.bytes-2.ensures ∙ ap (λ r. r.undecoded) c.self.view_is in
    let len = c.in-Ok.ensures.len ∙ ap (len_before_error now) read in
    let all = ap length read_again in
    Keeps-decoded_fatally c.args.self.now c.self.inside.inner c.mode_after-self-inside.result now c.decode_before_error.new.self c.clear.new.self c.piece.result c.self.inside.failures.total _ _
    (ap (λ r. g.S.Source.remaining r.inner) c.self.view_is) c.requires.mode
    (λ some. c.mode_after-self-inside.ensures.failed (omega (arith, len, all, some)))
    (λ none. c.mode_after-self-inside.ensures.fatal (omega (arith, len, all, none)))
    c.requires.waiting (ap (λ r. r.decoder) (sym c.self.view_is) ∙ c.in-Some.is) (c.in-Ok.ensures.leaves ∙ ap (state_before_error now) read) c.clear.ensures
    (c.piece.ensures ∙ c.in-Ok.ensures.text ∙ ap (λ l. encode_utf8_all (given_before_error now l)) read)
