use Rattle.std.proofs.Common.{[], ◌∷◌, ◌++◌, map, ap, ◌∙◌, rules}
use Rattle.std.specs.Prelude.{codes}
use Rattle.std.proofs.lemmas.List.{map_push}
use Rattle.std.specs.Str.{chars}
use Rattle.markup5ever.specs.Names.{attribute_of}
use Rattle.html5write.specs.Writing as writing
use Rattle.html5cleaner.specs.Clean.{adds_rel, attribute_chars}
use Rattle.html5cleaner.proofs.Links.{kept-link, kept-plain}
use Rattle.html5cleaner.proofs.attributes.kept_attributes.Goals as goal

pub returns-then-not-adds_rel : goal.returns-then-not-adds_rel
returns-then-not-adds_rel g c =
    kept-plain c.args.policy.now (chars c.args.element.now) (map attribute_chars (map attribute_of c.args.attributes.now)) (map writing.attribute_of c.in_ok-kept.kept.items)
    c.adds_rel.result c.in_ok-kept.ensures
    (c.adds_rel.ensures ∙ ap (λ l. adds_rel c.args.policy.now (chars c.args.element.now) (map writing.attribute_of l)) c.deref.ensures.value)
    (search rules)

pub returns : goal.returns
unfolding chars
returns g c =
    ap (map writing.attribute_of) c.in_ok-push.ensures.items
    ∙ map_push writing.attribute_of c.in_ok-kept.kept.items _
    ∙ (λ i. map writing.attribute_of c.in_ok-kept.kept.items ++ record { name = codes "rel"; value = chars (c.rel.ensures i) } ∷ [])
    ∙ kept-link c.args.policy.now (chars c.args.element.now) (map attribute_chars (map attribute_of c.args.attributes.now)) (map writing.attribute_of c.in_ok-kept.kept.items)
    c.adds_rel.result c.in_ok-kept.ensures
    (c.adds_rel.ensures ∙ ap (λ l. adds_rel c.args.policy.now (chars c.args.element.now) (map writing.attribute_of l)) c.deref.ensures.value)
    (search rules)
