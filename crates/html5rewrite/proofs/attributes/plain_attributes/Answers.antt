use Rattle.std.proofs.Common.{◌≡◌, ℕ, ◌+◌, ◌<◌, List, [], ◌∷◌, ◌++◌, length, map, drop, get_or, ap, sym, ◌∙◌, append_assoc}
use Rattle.std.proofs.lemmas.List.{at_drop_more, at_drop_all, append-nil}
use Rattle.std.proofs.lemmas.List.Elements.{filter-append}
use Rattle.markup5ever.specs.Names.{attribute_of}
use Rattle.markup5ever.specs.declared.interface.Attribute.{Attribute}
use Rattle.html5write.specs.Pieces.{is_attribute}
use Rattle.html5write.specs.Writing as writing
use Rattle.html5rewrite.specs.Plain.{attribute_chars, plain_attributes}
use Rattle.html5rewrite.proofs.attributes.plain_attributes.Goals as goal

plain-next : {Z : Type 0} (i : ℕ) (attributes : List (Attribute Z)) (item : Attribute Z) → i < length attributes → item ≡ get_or attributes i item
    → plain_attributes (map attribute_chars (map attribute_of (drop i attributes)))
    ≡ plain_attributes (attribute_chars (attribute_of item) ∷ []) ++ plain_attributes (map attribute_chars (map attribute_of (drop (i + 1) attributes)))
plain-next i attributes item within is =
    let later = map attribute_chars (map attribute_of (drop (i + 1) attributes)) in
    at_drop_more (λ l. plain_attributes (map attribute_chars (map attribute_of l))) attributes i item within
    ∙ filter-append is_attribute (attribute_chars (attribute_of (get_or attributes i item)) ∷ []) later
    ∙ ap (λ a. plain_attributes (attribute_chars (attribute_of a) ∷ []) ++ plain_attributes later) (sym is)

pub loop-attribute-preserved : goal.loop-attribute-preserved
loop-attribute-preserved g c =
    let i = c.loop-attribute.attribute-index in
    let before = map writing.attribute_of c.loop-attribute.plain.items in
    let later = plain_attributes (map attribute_chars (map attribute_of (drop (i + 1) c.args.attributes.now))) in
    ap (λ l. l ++ later) c.in_ok-push_plain.ensures
    ∙ append_assoc before _ later
    ∙ ap (λ l. before ++ l) (sym (plain-next i c.args.attributes.now c.attribute-item.result c.loop-attribute-test.true c.attribute-item.is))
    ∙ c.loop-attribute.invariant

pub returns : goal.returns
returns g c =
    let before = map writing.attribute_of c.loop-attribute.plain.items in
    sym (append-nil before)
    ∙ ap (λ l. before ++ l) (sym (at_drop_all (λ l. plain_attributes (map attribute_chars (map attribute_of l))) c.args.attributes.now c.loop-attribute.attribute-index c.loop-attribute-test.false))
    ∙ c.loop-attribute.invariant
