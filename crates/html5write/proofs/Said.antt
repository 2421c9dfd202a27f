-- The bytes of attributes that are sent.
use Rattle.std.proofs.Common.{◌≡◌, ℕ, ◌+◌, ◌<◌, ◌≤◌, List, length, get_or, drop, map, refl, sym, ◌∙◌}
use Rattle.std.specs.Prelude.{chars, encode_utf8_all}
use Rattle.std.proofs.lemmas.List.{at_drop_more, at_drop_all}
use Rattle.markup5ever.specs.Names.{AttributeOf}
use Rattle.html5write.specs.declared.piece.Attribute.{Attribute}
use Rattle.html5write.specs.Told.{attribute_told}
use Rattle.html5write.specs.Writing.{attribute_of, attribute_said}

abbrev told : List Attribute → List AttributeOf
told attributes = map attribute_told (map attribute_of attributes)

abbrev said : List Attribute → List AttributeOf
said attributes = map attribute_said attributes

pub said-next : (i : ℕ) (attributes : List Attribute) (d : Attribute) → i < length attributes
    → encode_utf8_all (chars (get_or attributes i d).name.now) ≡ (get_or attributes i d).name.now
    → encode_utf8_all (chars (get_or attributes i d).value.now) ≡ (get_or attributes i d).value.now
    → told (drop (i + 1) attributes) ≡ said (drop (i + 1) attributes) → told (drop i attributes) ≡ said (drop i attributes)
said-next i attributes d within name value later =
    at_drop_more told attributes i d within ∙ rw (name, value, later) refl ∙ sym (at_drop_more said attributes i d within)

pub said-none : (i : ℕ) (attributes : List Attribute) → length attributes ≤ i → told (drop i attributes) ≡ said (drop i attributes)
said-none i attributes all = at_drop_all told attributes i all ∙ sym (at_drop_all said attributes i all)
