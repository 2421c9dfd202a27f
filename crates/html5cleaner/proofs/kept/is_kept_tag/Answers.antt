use Rattle.std.proofs.Common.{refl, sym}
use Rattle.std.proofs.lemmas.Str.{encodes-chars}
use Rattle.html5cleaner.proofs.kept.is_kept_tag.Goals as goal

pub returns-in-StartTag : goal.returns-in-StartTag
returns-in-StartTag g c = rw (c.in-StartTag.is, encodes-chars c.args.name.now c.utf8.name) c.is_allowed.ensures

pub returns-then-is_allowed : goal.returns-then-is_allowed
returns-then-is_allowed g c =
    rw (c.in-EndTag.is, encodes-chars c.args.name.now c.utf8.name, sym c.is_allowed-in-EndTag.ensures, c.if-is_allowed.true, sym c.has_end.ensures) refl

pub returns-else-is_allowed : goal.returns-else-is_allowed
returns-else-is_allowed g c =
    rw (c.in-EndTag.is, encodes-chars c.args.name.now c.utf8.name, sym c.is_allowed-in-EndTag.ensures, c.if-is_allowed.false) refl
