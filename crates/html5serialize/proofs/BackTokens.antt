-- Each token that can be written is read again as itself.
use Rattle.std.proofs.Common.{◌≡◌, true}
use Rattle.html5ever_interface.specs.Sink.{Means}
use Rattle.html5ever_interface.specs.Token.{Told}
use Rattle.html5ever_interface.specs.Token.Told.{Text, Null, Error, Tag, Comment, Instruction, Doctype, End}
use Rattle.html5reading.specs.Start.{Start, Rules}
use Rattle.markup5ever.specs.NamedReferences.{IsTable}
use Rattle.html5serialize.specs.ReadBack.{HasTexts, ReadsBack}
use Rattle.html5serialize.specs.Tokens.{can_write}
use Rattle.html5serialize.proofs.MarkupBack.{tag-reads_back, comment-reads_back, instruction-reads_back, doctype-reads_back}
use Rattle.html5serialize.proofs.TextsBack.{text-back, null-back, error-back, end-back}
use Rattle.html5write.specs.Told.{IsOpen}

module _ {X S H : Type 0} (means : Means X S H) (rules : Rules) where
  pub token-reads_back : (K : Start) (s : S) (token : Told) → IsTable rules.references → IsOpen K → HasTexts token → can_write token ≡ true → ReadsBack means rules K s token
  token-reads_back K s (Text text) table here texts can = text-back means rules K s text here texts can
  token-reads_back K s Null table here texts can = null-back means rules K s here
  token-reads_back K s (Error message) table here texts can = error-back means rules K s message here
  token-reads_back K s (Tag tag) table here texts can = tag-reads_back means rules K s tag table here texts can
  token-reads_back K s (Comment text) table here texts can = comment-reads_back means rules K s text here texts can
  token-reads_back K s (Instruction content) table here texts can = instruction-reads_back means rules K s content here texts can
  token-reads_back K s (Doctype d) table here texts can = doctype-reads_back means rules K s d here texts can
  token-reads_back K s End table here texts can = end-back means rules K s here
