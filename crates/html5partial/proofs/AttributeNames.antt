-- The names of attributes, one more of them.
use Rattle.std.proofs.Common.{◌≡◌, ℕ, Bool, true, false, cond, List, [], ◌∷◌, ◌++◌, ◌+◌, ◌<◌, length, map, take, get_or, add-one, refl, ap, sym, ◌∙◌, String, string_bytes}
use Rattle.std.specs.Prelude.{◌||◌}
use Rattle.std.proofs.Math.Seq.{take-suc}
use Rattle.std.proofs.lemmas.List.{map-append}
use Rattle.std.proofs.lemmas.Map.Text.{btree_set_updates_text}
use Rattle.std.specs.BTreeSet.{BTreeSet, Updates, contains_text}
use Rattle.std.specs.Str.{bytes_eq}
use Rattle.std.specs.String.{string_cmp}
use Rattle.html5reading.specs.Tag.{has_attribute}
use Rattle.markup5ever.specs.Names.{AttributeOf, attribute_of}
use Rattle.markup5ever.specs.declared.interface.Attribute.{Attribute}
use Rattle.html5partial.specs.IndexedTag.{AddsName, HasNames}

pub cond-or : (a b : Bool) → cond a true b ≡ (a || b)
cond-or true b = refl
cond-or false b = refl

or-assoc : (a b c : Bool) → (a || (b || c)) ≡ (b || (a || c))
or-assoc true true c = refl
or-assoc true false c = refl
or-assoc false true c = refl
or-assoc false false c = refl

-- one more attribute
pub has_attribute-last : (attributes : List AttributeOf) (a : AttributeOf) (name : List ℕ)
    → has_attribute (attributes ++ a ∷ []) name ≡ (bytes_eq a.name.local name || has_attribute attributes name)
unfolding has_attribute
has_attribute-last [] a name = refl
has_attribute-last (x ∷ attributes) a name =
    ap (λ b. bytes_eq x.name.local name || b) (has_attribute-last attributes a name)
    ∙ or-assoc (bytes_eq x.name.local name) (bytes_eq a.name.local name) (has_attribute attributes name)

-- the names of the first attributes, and that of the next
pub names-more : {Z : Type 0} (old new : BTreeSet (String Z)) (attributes : List (Attribute Z)) (i : ℕ) (next : Attribute Z)
    → HasNames old (map attribute_of (take i attributes)) → next ≡ get_or attributes i next → i < length attributes
    → AddsName old new (string_bytes next.name.local.0) → HasNames new (map attribute_of (take (i + 1) attributes))
names-more old new attributes i next has is within adds name =
    let more : map attribute_of (take (i + 1) attributes) ≡ map attribute_of (take i attributes) ++ attribute_of next ∷ [] =
    rw (add-one, take-suc attributes i next within, ← is) (map-append attribute_of (take i attributes) (next ∷ [])) in
    adds name
    ∙ ap (λ b. bytes_eq (string_bytes next.name.local.0) name || b) (has name)
    ∙ sym (has_attribute-last (map attribute_of (take i attributes)) (attribute_of next) name)
    ∙ ap (λ l. has_attribute l name) (sym more)

-- a set of names, one more of them
pub adds-name : {Z : Type 0} (old new : BTreeSet (String Z)) (key : String Z) (added : List ℕ) → string_bytes key ≡ added
    → Updates string_cmp old new key true → AddsName old new added
adds-name old new key added e updates name =
    btree_set_updates_text (string_bytes key) old new true updates name
    ∙ cond-or (bytes_eq (string_bytes key) name) (contains_text old name)
    ∙ ap (λ bytes. bytes_eq bytes name || contains_text old name) e
