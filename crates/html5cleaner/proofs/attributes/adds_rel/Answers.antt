use Rattle.std.proofs.Common.{chars, encode_utf8_all, map}
use Rattle.std.proofs.lemmas.Str.{encodes-chars}
use Rattle.html5write.specs.Writing as writing
use Rattle.html5cleaner.proofs.Links.{link-else, link-then}
use Rattle.html5cleaner.proofs.attributes.adds_rel.Goals as goal

pub returns-then-is_rel_of_link : goal.returns-then-is_rel_of_link
returns-then-is_rel_of_link g c =
    link-then c.args.policy.now c.args.element.now (encode_utf8_all (chars c.args.element.now)) (map writing.attribute_of c.args.attributes.now) _ _
    (encodes-chars c.args.element.now c.utf8.element) c.is_rel_of_link.ensures c.if-is_rel_of_link.true c.has_href.ensures

pub returns-else-is_rel_of_link : goal.returns-else-is_rel_of_link
returns-else-is_rel_of_link g c =
    link-else c.args.policy.now c.args.element.now (encode_utf8_all (chars c.args.element.now)) (map writing.attribute_of c.args.attributes.now) _
    (encodes-chars c.args.element.now c.utf8.element) c.is_rel_of_link.ensures c.if-is_rel_of_link.false
