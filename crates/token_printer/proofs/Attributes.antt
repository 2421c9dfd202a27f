-- Attributes that are printed one after another.
use Rattle.std.proofs.Common.{◌≡◌, ℕ, ◌+◌, ◌<◌, List, [], ◌∷◌, ◌++◌, map, length, take, get_or, refl, ap, sym, ◌∙◌, codes}
use Rattle.std.proofs.lemmas.List.{append-nil, append_assoc, map_more}
use Rattle.std.proofs.lemmas.List.Concat.{flat_map-append}
use Rattle.markup5ever.specs.Names.{AttributeOf, attribute_of}
use Rattle.markup5ever.specs.declared.interface.Attribute.{Attribute}
use Rattle.token_printer.specs.Printed.{quoted_bytes, quoted, printed_attribute, printed_attributes, open_attribute, open_attributes}

pub open_attributes-none : (old : List ℕ) → old ≡ old ++ open_attributes []
unfolding open_attributes
open_attributes-none old = sym (append-nil old)

-- an output that has the first `i` attributes, and then one more
pub open_attributes-more : {Z : Type 0} (old output next : List ℕ) (attributes : List (Attribute Z)) (i : ℕ) (attribute : Attribute Z)
    → output ≡ old ++ open_attributes (map attribute_of (take i attributes))
    → attribute ≡ get_or attributes i attribute
    → i < length attributes
    → next ≡ output ++ open_attribute (attribute_of attribute)
    → next ≡ old ++ open_attributes (map attribute_of (take (i + 1) attributes))
unfolding open_attributes
open_attributes-more old output next attributes i attribute before here within printed =
    let front : List AttributeOf = map attribute_of (take i attributes) in
    let more : map attribute_of (take (i + 1) attributes) ≡ front ++ attribute_of attribute ∷ [] =
    map_more attribute_of attributes i attribute within ∙ ap (λ a. front ++ attribute_of a ∷ []) (sym here) in
    let parts : open_attributes (map attribute_of (take (i + 1) attributes)) ≡ open_attributes front ++ open_attribute (attribute_of attribute) =
    ap open_attributes more
    ∙ flat_map-append open_attribute front (attribute_of attribute ∷ [])
    ∙ ap (λ l. open_attributes front ++ l) (append-nil (open_attribute (attribute_of attribute))) in
    printed
    ∙ ap (λ l. l ++ open_attribute (attribute_of attribute)) before
    ∙ append_assoc old (open_attributes front) (open_attribute (attribute_of attribute))
    ∙ ap (λ l. old ++ l) (sym parts)

quote_moved : (quote space name equals value : List ℕ)
    → quote ++ space ++ quote ++ name ++ (quote ++ equals ++ quote) ++ value ++ quote
    ≡ quote ++ (space ++ (quote ++ name ++ quote) ++ equals ++ (quote ++ value ++ quote))
quote_moved quote space name equals value = simp append_assoc

-- the quote that follows an attribute stands before it, where its own quotes are closed
open_attribute-closed : (attribute : AttributeOf) → open_attribute attribute ++ codes "\"" ≡ codes "\"" ++ printed_attribute attribute
unfolding open_attribute printed_attribute quoted
open_attribute-closed attribute =
    quote_moved (codes "\"") (codes " ") (quoted_bytes attribute.name.local) (codes "=") (quoted_bytes attribute.value)

pub open_attributes-closed : (attributes : List AttributeOf) → open_attributes attributes ++ codes "\"" ≡ codes "\"" ++ printed_attributes attributes
unfolding open_attributes printed_attributes
open_attributes-closed [] = refl
open_attributes-closed (attribute ∷ attributes) =
    append_assoc (open_attribute attribute) (open_attributes attributes) (codes "\"")
    ∙ ap (λ l. open_attribute attribute ++ l) (open_attributes-closed attributes)
    ∙ sym (append_assoc (open_attribute attribute) (codes "\"") (printed_attributes attributes))
    ∙ ap (λ l. l ++ printed_attributes attributes) (open_attribute-closed attribute)
