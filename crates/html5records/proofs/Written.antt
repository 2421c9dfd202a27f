-- What is written, one thing after the other.
use Rattle.std.proofs.Common.{◌≡◌, ℕ, ◌+◌, ◌<◌, ◌≤◌, Bool, false, List, [], ◌∷◌, ◌++◌, map, length, take, drop, get_or, Result, OnOk, refl, ap, sym, ◌∙◌}
use Rattle.std.proofs.lemmas.List.{append-nil, append_assoc, map_more, drop-append-le}
use Rattle.std.proofs.lemmas.List.Concat.{flat_map-append}
use Rattle.std.proofs.lemmas.Result.{on_ok_weaker}
use Rattle.std.specs.List.{flat_map}
use Rattle.markup5ever.specs.Names.{AttributeOf, attribute_of}
use Rattle.markup5ever.specs.declared.interface.Attribute.{Attribute}
use Rattle.html5ever_interface.specs.Token.{Told, TagOf, is_text}
use Rattle.html5ever_interface.specs.Token.Told.{Text}
use Rattle.html5records.specs.Recording.{text_closing, added_by}
use Rattle.html5records.specs.Records.{number, counted, attribute_record, attribute_records, tag_flags, tag_parts, tag_code, heading, heading_of, code_of, record_of}

-- what is written for one thing more
pub flat_map-push : {X : Type 0} (f : X → List ℕ) (xs : List X) (x : X) → flat_map f (xs ++ x ∷ []) ≡ flat_map f xs ++ f x
flat_map-push f xs x = flat_map-append f xs (x ∷ []) ∙ ap (λ l. flat_map f xs ++ l) (append-nil (f x))

-- a page that has the first `i` attributes, and then one more
pub attributes-more : {Z : Type 0} (old written next : List ℕ) (attributes : List (Attribute Z)) (i : ℕ) (attribute : Attribute Z)
    → written ≡ old ++ flat_map attribute_record (map attribute_of (take i attributes))
    → attribute ≡ get_or attributes i attribute
    → i < length attributes
    → next ≡ written ++ attribute_record (attribute_of attribute)
    → next ≡ old ++ flat_map attribute_record (map attribute_of (take (i + 1) attributes))
attributes-more old written next attributes i attribute before here within last =
    let front : List AttributeOf = map attribute_of (take i attributes) in
    let more : map attribute_of (take (i + 1) attributes) ≡ front ++ attribute_of attribute ∷ [] =
    map_more attribute_of attributes i attribute within ∙ ap (λ a. front ++ attribute_of a ∷ []) (sym here) in
    last
    ∙ ap (λ l. l ++ attribute_record (attribute_of attribute)) before
    ∙ append_assoc old (flat_map attribute_record front) (attribute_record (attribute_of attribute))
    ∙ ap (λ l. old ++ l) (sym (ap (flat_map attribute_record) more ∙ flat_map-push attribute_record front (attribute_of attribute)))

-- a tag

-- up to the end of its name
pub tag-begun : (tag : TagOf) (kind line flags : ℕ) (name old beginning begun named : List ℕ)
    → kind ≡ tag_code tag.kind → flags ≡ tag_flags tag → name ≡ tag.name
    → beginning ≡ heading kind line ++ flags ∷ number (length name)
    → begun ≡ old ++ beginning → named ≡ begun ++ name
    → named ≡ old ++ (heading (tag_code tag.kind) line ++ tag_flags tag ∷ counted tag.name)
unfolding counted
tag-begun tag kind line flags name old beginning begun named kinds flagged names begins first second =
    let head = heading (tag_code tag.kind) line in
    let front = tag_flags tag ∷ number (length tag.name) in
    second
    ∙ rw (first, begins, kinds, flagged, names) (append_assoc old (head ++ front) tag.name)
    ∙ ap (λ l. old ++ l) (append_assoc head front tag.name)

-- and with its attributes
pub tag-whole : {T E : Type 0} (r : Result T E) (tag : TagOf) (head old named next attributes : List ℕ)
    → named ≡ old ++ (head ++ tag_flags tag ∷ counted tag.name)
    → attributes ≡ attribute_records tag.attributes
    → OnOk r (next ≡ named ++ attributes) → OnOk r (next ≡ old ++ (head ++ tag_parts tag))
unfolding tag_parts
tag-whole r tag head old named next attributes begun more last =
    let front = tag_flags tag ∷ counted tag.name in
    on_ok_weaker r (λ (e : next ≡ named ++ attributes). e ∙ rw (begun, more) (append_assoc old (head ++ front) (attribute_records tag.attributes)) ∙ ap (λ l. old ++ l) (append_assoc head front (attribute_records tag.attributes))) last

-- a token other than a text

pub heading_of-other : (told : Told) (line : ℕ) → is_text told ≡ false → heading_of told line ≡ heading (code_of told) line
unfolding heading_of
heading_of-other (Text text) line other = absurd cc
heading_of-other told line other = refl

pub added_by-other : (in_text : Bool) (told : Told) (line : ℕ) → is_text told ≡ false → added_by in_text told line ≡ text_closing in_text ++ record_of told line
unfolding added_by
added_by-other in_text (Text text) line other = absurd cc
added_by-other in_text told line other = refl

-- bytes more after those that wait
pub bytes-more : (taken written added next : List ℕ) (skipped : ℕ) → skipped ≤ length written → next ≡ written ++ added
    → taken ++ drop skipped next ≡ (taken ++ drop skipped written) ++ added
bytes-more taken written added next skipped within more =
    ap (λ l. taken ++ drop skipped l) more
    ∙ ap (λ l. taken ++ l) (drop-append-le skipped written added within)
    ∙ sym (append_assoc taken (drop skipped written) added)
