use Rattle.std.proofs.lemmas.Str.{encodes-chars}
use Rattle.html5cleaner.proofs.attributes.is_kept.Goals as goal

pub returns : goal.returns
returns g c =
    rw (encodes-chars c.args.element.now c.utf8.element, encodes-chars c.args.attribute.now c.utf8.attribute, encodes-chars c.args.value.now c.utf8.value)
    c.is_kept.ensures
