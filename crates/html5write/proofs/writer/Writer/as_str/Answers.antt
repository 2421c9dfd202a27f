use Rattle.std.proofs.Common.{string_bytes, ap, ◌∙◌}
use Rattle.std.specs.Str.{chars}
use Rattle.std.proofs.lemmas.Str.{IsUtf8-string_bytes}
use Rattle.html5write.specs.Pieces.{pieces_text}
use Rattle.html5write.proofs.PiecesLemmas.{written-characters}
use Rattle.html5write.proofs.writer.Writer.as_str.Goals as goal

pub returns-clause-written : goal.returns-clause-written
returns-clause-written g c =
    ap chars c.as_str.ensures.value
    ∙ written-characters (string_bytes c.self.inside.written) c.self.inside.trail.pieces (IsUtf8-string_bytes c.self.inside.written) c.self.invariant
    ∙ ap pieces_text c.self.view_is
