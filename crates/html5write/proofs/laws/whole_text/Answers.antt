use Rattle.std.proofs.Common.{ap, ◌∙◌}
use Rattle.html5reading.specs.NormalisedText.{normalised, line_after}
use Rattle.html5write.specs.Pieces.{pieces_text}
use Rattle.html5write.specs.Told.{proper, tokens_of}
use Rattle.html5write.proofs.Pages.{pieces-reading}
use Rattle.html5write.proofs.ProperTokens.{proper-whole}
use Rattle.html5write.proofs.Silent.{tokens-whole}
use Rattle.html5write.proofs.laws.whole_text.Goals as goal

pub returns-clause-messages : goal.returns-clause-messages
returns-clause-messages g c = λ rules K s pieces back. pieces-reading g.S.TokenSink.means rules K s pieces back.table back.starts back.can back.keeps

pub returns-clause-tokens : goal.returns-clause-tokens
returns-clause-tokens g c = λ rules K s pieces back.
    ap proper (pieces-reading g.S.TokenSink.means rules K s pieces back.table back.starts back.can back.keeps)
    ∙ proper-whole rules.exact K.input pieces (line_after K.input (normalised K.input (pieces_text pieces)))

pub returns-clause-silent : goal.returns-clause-silent
returns-clause-silent g c = λ rules K s pieces back quiet none.
    ap tokens_of (pieces-reading g.S.TokenSink.means rules K s pieces back.table back.starts back.can back.keeps)
    ∙ tokens-whole rules.exact K.input pieces (line_after K.input (normalised K.input (pieces_text pieces))) quiet none
