use Rattle.std.proofs.Common.{◌≡◌, ℕ, ◌+◌, ◌<◌, List, [], ◌∷◌, ◌++◌, length, chars, filter, map, drop, get_or, ap, sym, ◌∙◌, append_assoc}
use Rattle.std.proofs.lemmas.List.{at_drop_more, at_drop_all, append-nil}
use Rattle.std.proofs.lemmas.List.Elements.{filter-append}
use Rattle.markup5ever.specs.Names.{attribute_of}
use Rattle.markup5ever.specs.declared.interface.Attribute.{Attribute}
use Rattle.html5write.specs.Writing as writing
use Rattle.html5cleaner.specs.Allowed.{is_kept_attribute}
use Rattle.html5cleaner.specs.Clean.{attribute_chars}
use Rattle.html5policy.specs.Policy.{PolicyOf}
use Rattle.html5cleaner.proofs.attributes.filtered_attributes.Goals as goal

kept-next : {Z : Type 0} (policy : PolicyOf) (element : List ℕ) (i : ℕ) (attributes : List (Attribute Z)) (item : Attribute Z) → i < length attributes → item ≡ get_or attributes i item
    → filter (is_kept_attribute policy element) (map attribute_chars (map attribute_of (drop i attributes)))
    ≡ filter (is_kept_attribute policy element) (attribute_chars (attribute_of item) ∷ []) ++ filter (is_kept_attribute policy element) (map attribute_chars (map attribute_of (drop (i + 1) attributes)))
kept-next policy element i attributes item within is =
    let later = map attribute_chars (map attribute_of (drop (i + 1) attributes)) in
    at_drop_more (λ l. filter (is_kept_attribute policy element) (map attribute_chars (map attribute_of l))) attributes i item within
    ∙ filter-append (is_kept_attribute policy element) (attribute_chars (attribute_of (get_or attributes i item)) ∷ []) later
    ∙ ap (λ a. filter (is_kept_attribute policy element) (attribute_chars (attribute_of a) ∷ []) ++ filter (is_kept_attribute policy element) later) (sym is)

pub loop-attribute-preserved : goal.loop-attribute-preserved
loop-attribute-preserved g c =
    let policy = c.args.policy.now in
    let element = chars c.args.element.now in
    let i = c.loop-attribute.attribute-index in
    let before = map writing.attribute_of c.loop-attribute.kept.items in
    let later = filter (is_kept_attribute policy element) (map attribute_chars (map attribute_of (drop (i + 1) c.args.attributes.now))) in
    ap (λ l. l ++ later) c.in_ok-push_kept.ensures
    ∙ append_assoc before _ later
    ∙ ap (λ l. before ++ l) (sym (kept-next policy element i c.args.attributes.now c.attribute-item.result c.loop-attribute-test.true c.attribute-item.is))
    ∙ c.loop-attribute.invariant

pub returns : goal.returns
returns g c =
    let policy = c.args.policy.now in
    let element = chars c.args.element.now in
    let before = map writing.attribute_of c.loop-attribute.kept.items in
    sym (append-nil before)
    ∙ ap (λ l. before ++ l) (sym (at_drop_all (λ l. filter (is_kept_attribute policy element) (map attribute_chars (map attribute_of l))) c.args.attributes.now c.loop-attribute.attribute-index c.loop-attribute-test.false))
    ∙ c.loop-attribute.invariant
