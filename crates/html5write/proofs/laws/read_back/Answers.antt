use Rattle.std.proofs.Common.{ap, ◌∙◌}
use Rattle.html5reading.specs.NormalisedText.{normalised, line_after}
use Rattle.html5write.specs.Pieces.{pieces_text}
use Rattle.html5write.specs.Told.{proper}
use Rattle.html5write.proofs.Pages.{pieces-reading}
use Rattle.html5write.proofs.ProperTokens.{proper-whole}
use Rattle.html5write.proofs.laws.read_back.Goals as goal

pub returns : goal.returns
returns g c = λ rules K s table here keeps.
    let pieces = c.args.writer.now in
    ap proper (pieces-reading g.S.TokenSink.means rules K s pieces table here c.as_str-written.ensures.can keeps)
    ∙ proper-whole rules.exact K.input pieces (line_after K.input (normalised K.input (pieces_text pieces)))
