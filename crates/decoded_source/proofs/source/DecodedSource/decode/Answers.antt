use Rattle.std.proofs.Common.{sym, ap, ◌∙◌}
use Rattle.std.specs.Prelude.{encode_utf8_all}
use Rattle.html5encodings.specs.Decoding.{given, state_after}
use Rattle.decoded_source.proofs.Pieces.{Keeps-decoded}
use Rattle.decoded_source.proofs.source.DecodedSource.decode.Goals as goal

pub returns-clause-keeps : goal.returns-clause-keeps
returns-clause-keeps g c =
    let now = c.in-Some.decoder in
    let read = c.bytes.ensures ∙ ap (λ r. r.undecoded) c.self.view_is in
    let mode = ap (λ r. r.mode) c.self.view_is ∙ c.requires.mode in
    Keeps-decoded c.args.self.now c.self.inside.inner c.self.inside.mode now c.decode.new.self c.clear.new.self c.piece.result c.self.inside.failures.total _ _ (ap (λ r. g.S.Source.remaining r.inner) c.self.view_is) c.requires.mode mode c.requires.waiting
    (ap (λ r. r.decoder) (sym c.self.view_is) ∙ c.in-Some.is) (c.in-Ok.ensures.leaves ∙ ap (state_after now) read) c.clear.ensures
    (c.piece.ensures ∙ c.in-Ok.ensures.text ∙ ap (λ l. encode_utf8_all (given now l)) read)
