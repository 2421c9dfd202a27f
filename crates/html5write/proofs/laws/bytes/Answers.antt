use Rattle.std.proofs.Common.{refl}
use Rattle.html5write.proofs.laws.bytes.Goals as goal

pub returns-in-StartTag : goal.returns-in-StartTag
returns-in-StartTag c = rw (c.in-StartTag.is, c.is_text.ensures, c.are_texts.ensures) refl

pub returns-in-EndTag : goal.returns-in-EndTag
returns-in-EndTag c = rw (c.in-EndTag.is, c.is_text-in-EndTag.ensures) refl
