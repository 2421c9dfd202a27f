-- A serialized tag is a tag of the grammar, and that one tells it.
use Rattle.std.proofs.Common.{◌≡◌, ℕ, ◌≤◌, ◌<◌, Bool, true, false, List, [], ◌∷◌, ◌++◌, Option, None, Some, length, refl, ap, sym, ◌∙◌, ⊎_elim, arith}
use Rattle.std.specs.Prelude.{◌==◌, ◌&&◌, not, nat_eq, chars, codes, flat_map, encode_utf8_all, if◌then◌else◌}
use Rattle.std.specs.List.{list_all}
use Rattle.std.specs.Option.{is_none}
use Rattle.std.specs.Str.{IsUtf8, bytes_eq}
use Rattle.std.proofs.lemmas.Bool.{and_parts, not-true, false≢true, cases_lt, eqb-true}
use Rattle.std.proofs.lemmas.Bool.Decides.{nat_tests}
use Rattle.std.proofs.lemmas.List.{append_assoc, append-nil, nil_from_length}
use Rattle.std.proofs.lemmas.Str.{encode_ascii, encodes-chars}
use Rattle.html5ever_interface.specs.Token.{TagOf}
use Rattle.html5ever_interface.specs.declared.interface.token.TagKind.{TagKind}
use Rattle.html5ever_interface.specs.declared.interface.token.TagKind.TheVariants.{StartTag, EndTag}
use Rattle.html5reading.specs.Characters.{null, space, equals_sign, is_between, is_white_space}
use Rattle.html5reading.specs.Lawful.{has_no_null}
use Rattle.html5reading.specs.Start.{Rules}
use Rattle.html5reading.specs.Start.Place.{InName, BeforeAttribute, AfterQuotedValue}
use Rattle.html5reading.specs.Tag.{attribute, has_attribute, in_attribute_name, is_after_solidus}
use Rattle.html5grammar.specs.Tag.{Part, WrittenTag, opening, part_text, written, is_written, can_follow, place_after_parts, attributes_with, attributes_with_parts, repeats, has_repeated, kept, tag_told}
use Rattle.html5grammar.specs.Tag.Part.{Blank, Solidus}
use Rattle.markup5ever.specs.Names.{AttributeOf}
use Rattle.html5write.specs.Pieces as pieces
use Rattle.html5write.specs.Pieces.{is_name_character, is_tag_name}
use Rattle.html5write.specs.Told.{has_no_return}
use Rattle.html5write.proofs.Names.{IsName, name-parts, small-letter, in_tag_name-all, begins-attribute, shown-name, no_return-name}
use Rattle.html5write.proofs.Shapes.{attribute_part}
use Rattle.html5write.proofs.Told.{names-tag}
use Rattle.html5write.proofs.Values.{no_return-append}
use Rattle.html5serialize.specs.Escapes.{value_text_by}
use Rattle.html5serialize.specs.ReadBack.{AreAttributeTexts}
use Rattle.html5serialize.specs.Tags.{attribute_text_by, attributes_text_by, opening_text, closing_text, tag_text_by, is_unqualified, is_later_character, is_attribute_name, is_attribute, differs_from, are_distinct, is_tag}
use Rattle.html5serialize.specs.Tokens.{without_duplicates}
use Rattle.html5serialize.specs.declared.escaping.Escapes.{Escapes}
use Rattle.html5serialize.proofs.NamedValues.{ShowsValues, in_value-text_by, no_return-text_by}
use Rattle.html5serialize.proofs.Utf8Bytes.{High, high-encode, all-chars, all-parts, all-from_encodes}

-- ---- names, from their bytes to their characters

pub high-name : (b : ℕ) → 128 ≤ b → is_name_character b ≡ true
unfolding is_name_character is_white_space
high-name b h = grind (arith, nat_tests)

pub high-later : (b : ℕ) → 128 ≤ b → is_later_character b ≡ true
high-later b h =
    let other : (b == equals_sign) ≡ false = grind (arith, nat_tests) in
    rw (high-name b h, other) refl

high-no_null : (b : ℕ) → 128 ≤ b → not (b == null) ≡ true
high-no_null b h = grind (arith, nat_tests)

attribute_name-encodes : (cs : List ℕ) → is_attribute_name (encode_utf8_all cs) ≡ true → is_attribute_name cs ≡ true
unfolding is_attribute_name
attribute_name-encodes [] h = h
attribute_name-encodes (c ∷ cs) h =
    ⊎_elim
    (λ (a : c < 128).
    let p = and_parts (is_name_character c) (list_all is_later_character (encode_utf8_all cs)) (ap (λ l. is_attribute_name (l ++ encode_utf8_all cs)) (sym (encode_ascii c a)) ∙ h) in
    rw (p.0) (all-from_encodes is_later_character high-later cs p.1))
    (λ (a : 128 ≤ c).
    let e : High c = high-encode c a in
    let p = and_parts (is_name_character e.first) (list_all is_later_character (e.more ++ encode_utf8_all cs)) (ap (λ l. is_attribute_name (l ++ encode_utf8_all cs)) (sym e.is) ∙ h) in
    rw (high-name c a) (all-from_encodes is_later_character high-later cs ((all-parts is_later_character e.more (encode_utf8_all cs) p.1).1)))
    (cases_lt c 128)

attribute_name-chars : (name : List ℕ) → IsUtf8 name → is_attribute_name name ≡ true → is_attribute_name (chars name) ≡ true
attribute_name-chars name utf8 h = attribute_name-encodes (chars name) (ap is_attribute_name (encodes-chars name utf8) ∙ h)

high-letter : (b : ℕ) → 128 ≤ b → is_between 0x0061 0x007A b ≡ false
high-letter b h = grind (arith, nat_tests)

tag_name-encodes : (cs : List ℕ) → is_tag_name (encode_utf8_all cs) ≡ true → is_tag_name cs ≡ true
unfolding is_tag_name
tag_name-encodes [] h = h
tag_name-encodes (c ∷ cs) h =
    ⊎_elim
    (λ (a : c < 128).
    let p = and_parts (is_between 0x0061 0x007A c) (list_all is_name_character (encode_utf8_all cs)) (ap (λ l. is_tag_name (l ++ encode_utf8_all cs)) (sym (encode_ascii c a)) ∙ h) in
    rw (p.0) (all-from_encodes is_name_character high-name cs p.1))
    (λ (a : 128 ≤ c).
    let e : High c = high-encode c a in
    let p = and_parts (is_between 0x0061 0x007A e.first) (list_all is_name_character (e.more ++ encode_utf8_all cs)) (ap (λ l. is_tag_name (l ++ encode_utf8_all cs)) (sym e.is) ∙ h) in
    absurd (false≢true (sym (high-letter e.first e.high) ∙ p.0)))
    (cases_lt c 128)

tag_name-chars : (name : List ℕ) → IsUtf8 name → is_tag_name name ≡ true → is_tag_name (chars name) ≡ true
tag_name-chars name utf8 h = tag_name-encodes (chars name) (ap is_tag_name (encodes-chars name utf8) ∙ h)

no_null-bytes : (text : List ℕ) → has_no_null text ≡ true → list_all (λ b. not (b == null)) text ≡ true
unfolding has_no_null
no_null-bytes text h = h

-- a text without the byte NUL has no NUL
pub no_null-chars : (text : List ℕ) → IsUtf8 text → has_no_null text ≡ true → pieces.has_no_null (chars text) ≡ true
no_null-chars text utf8 h = all-chars (λ b. not (b == null)) high-no_null text utf8 (no_null-bytes text h)

-- ---- an attribute that is read back

record IsBack (a : AttributeOf) : Type 0 where
  name : is_attribute_name (chars a.name.local) ≡ true
  value : pieces.has_no_null (chars a.value) ≡ true
  same : attribute (encode_utf8_all (chars a.name.local)) (encode_utf8_all (chars a.value)) ≡ a

none-is : {X : Type 0} (o : Option X) → is_none o ≡ true → o ≡ None
none-is None h = refl
none-is (Some x) h = absurd (false≢true h)

unqualified-same : (a : AttributeOf) → is_unqualified a.name ≡ true → attribute a.name.local a.value ≡ a
unqualified-same a h =
    let p = and_parts (is_none a.name.prefix) (nat_eq (length a.name.ns) 0) h in
    let ns : a.name.ns ≡ [] = nil_from_length a.name.ns (eqb-true (length a.name.ns) 0 p.1) in
    let with_ns : List ℕ → AttributeOf = λ n. record { name = record { prefix = None; ns = n; local = a.name.local }; value = a.value } in
    let with_prefix : Option (List ℕ) → AttributeOf = λ o. record { name = record { prefix = o; ns = a.name.ns; local = a.name.local }; value = a.value } in
    ap with_ns (sym ns) ∙ ap with_prefix (sym (none-is a.name.prefix p.0))

is-back : (a : AttributeOf) → IsUtf8 a.name.local → IsUtf8 a.value → is_attribute a ≡ true → IsBack a
is-back a name value h =
    let p = and_parts (is_unqualified a.name) (is_attribute_name a.name.local && has_no_null a.value) h in
    let q = and_parts (is_attribute_name a.name.local) (has_no_null a.value) p.1 in
    record {
      name = attribute_name-chars a.name.local name q.0;
      value = no_null-chars a.value value q.1;
      same = rw (encodes-chars a.name.local name, encodes-chars a.value value) (unqualified-same a p.0);
    }

abbrev AreBack : List AttributeOf → Type 0
AreBack [] = Unit {0}
AreBack (a ∷ attributes) = IsBack a × AreBack attributes

are-back : (attributes : List AttributeOf) → AreAttributeTexts attributes → list_all is_attribute attributes ≡ true → AreBack attributes
are-back [] texts h = tt
are-back (a ∷ attributes) texts h =
    let p = and_parts (is_attribute a) (list_all is_attribute attributes) h in
    (is-back a texts.0.0 texts.0.1 p.0, are-back attributes texts.1 p.1)

-- ---- the tag of the grammar

abbrev parts_with : Escapes → AttributeOf → List Part
parts_with escapes a = Blank space ∷ attribute_part (chars a.name.local) (value_text_by escapes (chars a.value)) ∷ []

abbrev pub parts_of : Escapes → List AttributeOf → List Part
parts_of escapes attributes = flat_map (λ a. parts_with escapes a) attributes

abbrev pub end_parts : Bool → List Part
end_parts self_closing = if self_closing then Solidus ∷ [] else []

abbrev pub named : TagKind → List ℕ → List Part → WrittenTag
named kind [] parts = record { kind = kind; first = 0; rest = []; parts = parts }
named kind (c ∷ name) parts = record { kind = kind; first = c; rest = name; parts = parts }

abbrev pub written_tag : Escapes → TagOf → WrittenTag
written_tag escapes tag = named tag.kind (chars tag.name) (parts_of escapes tag.attributes ++ end_parts tag.self_closing)

-- ---- its text

text-part : (name run : List ℕ) → is_attribute_name name ≡ true → part_text (attribute_part name run) ≡ name ++ (codes "=\"" ++ (run ++ codes "\""))
unfolding is_attribute_name
text-part [] run h = absurd (false≢true h)
text-part (c ∷ name) run h = refl

text-parts : (escapes : Escapes) (attributes : List AttributeOf) (later : List Part) → AreBack attributes
    → flat_map part_text (parts_of escapes attributes ++ later) ≡ attributes_text_by escapes attributes ++ flat_map part_text later
text-parts escapes [] later back = refl
text-parts escapes (a ∷ attributes) later back =
    rw (text-part (chars a.name.local) (value_text_by escapes (chars a.value)) back.0.name, text-parts escapes attributes later back.1)
    (sym (append_assoc (attribute_text_by escapes a) (attributes_text_by escapes attributes) (flat_map part_text later)))

text-end : (self_closing : Bool) → flat_map part_text (end_parts self_closing) ++ codes ">" ≡ closing_text self_closing
text-end true = refl
text-end false = refl

text-opening : (kind : TagKind) → opening kind ≡ opening_text kind
text-opening StartTag = refl
text-opening EndTag = refl

text-named : (kind : TagKind) (name : List ℕ) (parts : List Part) → is_tag_name name ≡ true
    → written (named kind name parts) ≡ opening_text kind ++ (name ++ (flat_map part_text parts ++ codes ">"))
unfolding written is_tag_name
text-named kind [] parts h = absurd (false≢true h)
text-named kind (c ∷ name) parts h =
    append_assoc (opening kind) (c ∷ name ++ flat_map part_text parts) (codes ">")
    ∙ rw (text-opening kind) (ap (λ l. opening_text kind ++ l) (append_assoc (c ∷ name) (flat_map part_text parts) (codes ">")))

text-closing : (escapes : Escapes) (attributes : List AttributeOf) (self_closing : Bool) → AreBack attributes
    → flat_map part_text (parts_of escapes attributes ++ end_parts self_closing) ++ codes ">" ≡ attributes_text_by escapes attributes ++ closing_text self_closing
text-closing escapes attributes self_closing back =
    ap (λ l. l ++ codes ">") (text-parts escapes attributes (end_parts self_closing) back)
    ∙ append_assoc (attributes_text_by escapes attributes) (flat_map part_text (end_parts self_closing)) (codes ">")
    ∙ ap (λ l. attributes_text_by escapes attributes ++ l) (text-end self_closing)

text-tag : (escapes : Escapes) (tag : TagOf) → is_tag_name (chars tag.name) ≡ true → AreBack tag.attributes → written (written_tag escapes tag) ≡ tag_text_by escapes tag
text-tag escapes tag name back =
    text-named tag.kind (chars tag.name) (parts_of escapes tag.attributes ++ end_parts tag.self_closing) name
    ∙ ap (λ l. opening_text tag.kind ++ (chars tag.name ++ l)) (text-closing escapes tag.attributes tag.self_closing back)

-- ---- it is a tag, written out

later-parts : (c : ℕ) → is_later_character c ≡ true → in_attribute_name c ≡ true
unfolding in_attribute_name
later-parts c h =
    let p = and_parts (is_name_character c) (not (c == equals_sign)) h in
    let n : IsName c = name-parts c p.0 in
    rw (n.no_space, n.no_solidus, n.no_greater_than, not-true (c == equals_sign) p.1) refl

later-all : (name : List ℕ) → list_all is_later_character name ≡ true → list_all in_attribute_name name ≡ true
later-all [] h = refl
later-all (c ∷ name) h =
    let p = and_parts (is_later_character c) (list_all is_later_character name) h in
    rw (later-parts c p.0) (later-all name p.1)

follows-attribute : (escapes : Escapes) (name value : List ℕ) (later : List Part) → is_attribute_name name ≡ true → can_follow AfterQuotedValue later ≡ true
    → can_follow BeforeAttribute (attribute_part name (value_text_by escapes value) ∷ later) ≡ true
unfolding is_attribute_name can_follow
follows-attribute escapes [] value later h g = absurd (false≢true h)
follows-attribute escapes (c ∷ name) value later h g =
    let p = and_parts (is_name_character c) (list_all is_later_character name) h in
    rw (begins-attribute c (name-parts c p.0), later-all name p.1, in_value-text_by escapes value) g

follows-end : (self_closing : Bool) → can_follow AfterQuotedValue (end_parts self_closing) ≡ true
unfolding can_follow
follows-end true = refl
follows-end false = refl

follows-value : (escapes : Escapes) (attributes : List AttributeOf) (self_closing : Bool) → AreBack attributes → can_follow AfterQuotedValue (parts_of escapes attributes ++ end_parts self_closing) ≡ true
unfolding can_follow is_white_space
follows-value escapes [] self_closing back = follows-end self_closing
follows-value escapes (a ∷ attributes) self_closing back =
    follows-attribute escapes (chars a.name.local) (chars a.value) (parts_of escapes attributes ++ end_parts self_closing) back.0.name (follows-value escapes attributes self_closing back.1)

follows-name : (escapes : Escapes) (attributes : List AttributeOf) (self_closing : Bool) → AreBack attributes → can_follow InName (parts_of escapes attributes ++ end_parts self_closing) ≡ true
unfolding can_follow is_white_space
follows-name escapes [] true back = refl
follows-name escapes [] false back = refl
follows-name escapes (a ∷ attributes) self_closing back =
    follows-attribute escapes (chars a.name.local) (chars a.value) (parts_of escapes attributes ++ end_parts self_closing) back.0.name (follows-value escapes attributes self_closing back.1)

written-named : (kind : TagKind) (name : List ℕ) (parts : List Part) → is_tag_name name ≡ true → can_follow InName parts ≡ true → is_written (named kind name parts) ≡ true
unfolding is_written is_tag_name
written-named kind [] parts h g = absurd (false≢true h)
written-named kind (c ∷ name) parts h g =
    let p = and_parts (is_between 0x0061 0x007A c) (list_all is_name_character name) h in
    rw ((small-letter c p.0).letter, in_tag_name-all name p.1) g

-- ---- what it tells

-- attributes in the order of the grammar, the last one first
abbrev told_after : List AttributeOf → List AttributeOf → List AttributeOf
told_after before [] = before
told_after before (a ∷ attributes) = told_after (a ∷ before) attributes

-- none of them has the name of one before them
abbrev are_new : List AttributeOf → List AttributeOf → Bool
are_new before attributes = list_all (λ (a : AttributeOf). not (has_attribute before a.name.local)) attributes

new-none : (attributes : List AttributeOf) → are_new [] attributes ≡ true
unfolding has_attribute
new-none [] = refl
new-none (a ∷ attributes) = new-none attributes

new-one : (a : AttributeOf) (before attributes : List AttributeOf) → are_new before attributes ≡ true → list_all (differs_from a) attributes ≡ true
    → are_new (a ∷ before) attributes ≡ true
unfolding has_attribute
new-one a before [] h g = refl
new-one a before (b ∷ attributes) h g =
    let p = and_parts (not (has_attribute before b.name.local)) (are_new before attributes) h in
    let q = and_parts (differs_from a b) (list_all (differs_from a) attributes) g in
    rw (not-true (bytes_eq a.name.local b.name.local) q.0, not-true (has_attribute before b.name.local) p.0)
    (new-one a before attributes p.1 q.1)

-- what is known of attributes after others
record AreNew (before attributes : List AttributeOf) : Type 0 where
  repeated : has_repeated before ≡ false
  new : are_new before attributes ≡ true
  distinct : are_distinct attributes ≡ true

new-first : (before : List AttributeOf) (a : AttributeOf) (attributes : List AttributeOf) → AreNew before (a ∷ attributes) → has_attribute before a.name.local ≡ false
new-first before a attributes n =
    not-true (has_attribute before a.name.local) (and_parts (not (has_attribute before a.name.local)) (are_new before attributes) n.new).0

new-next : (before : List AttributeOf) (a : AttributeOf) (attributes : List AttributeOf) → AreNew before (a ∷ attributes) → AreNew (a ∷ before) attributes
unfolding has_repeated repeats are_distinct
new-next before a attributes n =
    let p = and_parts (list_all (differs_from a) attributes) (are_distinct attributes) n.distinct in
    let q = and_parts (not (has_attribute before a.name.local)) (are_new before attributes) n.new in
    record {
      repeated = rw (new-first before a attributes n, n.repeated) refl;
      new = new-one a before attributes q.1 p.0;
      distinct = p.1;
    }

all-new : (attributes : List AttributeOf) → are_distinct attributes ≡ true → AreNew [] attributes
unfolding has_repeated
all-new attributes h = record { repeated = refl; new = new-none attributes; distinct = h }

repeated-all : (before attributes : List AttributeOf) → AreNew before attributes → has_repeated (told_after before attributes) ≡ false
repeated-all before [] n = n.repeated
repeated-all before (a ∷ attributes) n = repeated-all (a ∷ before) attributes (new-next before a attributes n)

kept-all : (before attributes : List AttributeOf) → AreNew before attributes → kept (told_after before attributes) ≡ kept before ++ attributes
unfolding kept repeats
kept-all before [] n = sym (append-nil (kept before))
kept-all before (a ∷ attributes) n =
    kept-all (a ∷ before) attributes (new-next before a attributes n)
    ∙ rw (new-first before a attributes n) (append_assoc (kept before) (a ∷ []) attributes)

later-names : (name : List ℕ) → list_all is_later_character name ≡ true → list_all is_name_character name ≡ true
later-names [] h = refl
later-names (c ∷ name) h =
    let p = and_parts (is_later_character c) (list_all is_later_character name) h in
    rw ((and_parts (is_name_character c) (not (c == equals_sign)) p.0).0) (later-names name p.1)

names-attribute : (name : List ℕ) → is_attribute_name name ≡ true → list_all is_name_character name ≡ true
unfolding is_attribute_name
names-attribute [] h = absurd (false≢true h)
names-attribute (c ∷ name) h =
    let p = and_parts (is_name_character c) (list_all is_later_character name) h in
    rw (p.0) (later-names name p.1)

module _ (rules : Rules) (escapes : Escapes) (shows : ShowsValues rules escapes) where
  with-attribute : (before : List AttributeOf) (name value : List ℕ) → is_attribute_name name ≡ true → pieces.has_no_null value ≡ true
      → attributes_with rules before (attribute_part name (value_text_by escapes value)) ≡ attribute (encode_utf8_all name) (encode_utf8_all value) ∷ before
  unfolding is_attribute_name
  with-attribute before [] value h g = absurd (false≢true h)
  with-attribute before (c ∷ name) value h g =
      rw (shown-name (c ∷ name) (names-attribute (c ∷ name) h), shows value g) refl

  with-end : (before : List AttributeOf) (self_closing : Bool) → attributes_with_parts rules before (end_parts self_closing) ≡ before
  unfolding attributes_with_parts
  with-end before true = refl
  with-end before false = refl

  with-all : (before attributes : List AttributeOf) (self_closing : Bool) → AreBack attributes
      → attributes_with_parts rules before (parts_of escapes attributes ++ end_parts self_closing) ≡ told_after before attributes
  unfolding attributes_with_parts
  with-all before [] self_closing back = with-end before self_closing
  with-all before (a ∷ attributes) self_closing back =
      ap (λ l. attributes_with_parts rules l (parts_of escapes attributes ++ end_parts self_closing))
      (with-attribute before (chars a.name.local) (chars a.value) back.0.name back.0.value ∙ ap (λ b. b ∷ before) back.0.same)
      ∙ with-all (a ∷ before) attributes self_closing back.1

-- ---- the place before its `>`

place-attribute : (name run : List ℕ) (later : List Part) → is_attribute_name name ≡ true
    → place_after_parts BeforeAttribute (attribute_part name run ∷ later) ≡ place_after_parts AfterQuotedValue later
unfolding place_after_parts is_attribute_name
place-attribute [] run later h = absurd (false≢true h)
place-attribute (c ∷ name) run later h = refl

closes-end : (self_closing : Bool) → is_after_solidus (place_after_parts AfterQuotedValue (end_parts self_closing)) ≡ self_closing
unfolding place_after_parts
closes-end true = refl
closes-end false = refl

closes-value : (escapes : Escapes) (attributes : List AttributeOf) (self_closing : Bool) → AreBack attributes
    → is_after_solidus (place_after_parts AfterQuotedValue (parts_of escapes attributes ++ end_parts self_closing)) ≡ self_closing
unfolding place_after_parts
closes-value escapes [] self_closing back = closes-end self_closing
closes-value escapes (a ∷ attributes) self_closing back =
    ap is_after_solidus (place-attribute (chars a.name.local) (value_text_by escapes (chars a.value)) (parts_of escapes attributes ++ end_parts self_closing) back.0.name)
    ∙ closes-value escapes attributes self_closing back.1

closes-name : (escapes : Escapes) (attributes : List AttributeOf) (self_closing : Bool) → AreBack attributes
    → is_after_solidus (place_after_parts InName (parts_of escapes attributes ++ end_parts self_closing)) ≡ self_closing
unfolding place_after_parts
closes-name escapes [] true back = refl
closes-name escapes [] false back = refl
closes-name escapes (a ∷ attributes) self_closing back =
    ap is_after_solidus (place-attribute (chars a.name.local) (value_text_by escapes (chars a.value)) (parts_of escapes attributes ++ end_parts self_closing) back.0.name)
    ∙ closes-value escapes attributes self_closing back.1

-- ---- the emitted tag

told-named : (rules : Rules) (escapes : Escapes) → ShowsValues rules escapes → (kind : TagKind) (name : List ℕ) (attributes : List AttributeOf) (self_closing : Bool) → is_tag_name name ≡ true → AreBack attributes
    → are_distinct attributes ≡ true
    → tag_told rules (named kind name (parts_of escapes attributes ++ end_parts self_closing))
    ≡ record { kind = kind; name = encode_utf8_all name; self_closing = self_closing; attributes = attributes; had_duplicate_attributes = false }
unfolding is_tag_name kept
told-named rules escapes shows kind [] attributes self_closing h back distinct = absurd (false≢true h)
told-named rules escapes shows kind (c ∷ name) attributes self_closing h back distinct =
    let n : AreNew [] attributes = all-new attributes distinct in
    rw (shown-name (c ∷ name) (names-tag (c ∷ name) h), with-all rules escapes shows [] attributes self_closing back, kept-all [] attributes n, repeated-all [] attributes n, closes-name escapes attributes self_closing back) refl

-- ---- there is no CR in it

no_return-attributes : (escapes : Escapes) (attributes : List AttributeOf) → AreBack attributes → has_no_return (attributes_text_by escapes attributes) ≡ true
no_return-attributes escapes [] back = refl
no_return-attributes escapes (a ∷ attributes) back =
    let name : List ℕ = chars a.name.local in
    let value : List ℕ = value_text_by escapes (chars a.value) in
    no_return-append (attribute_text_by escapes a) (attributes_text_by escapes attributes)
    (no_return-append (codes " ") (name ++ (codes "=\"" ++ (value ++ codes "\""))) refl
    (no_return-append name (codes "=\"" ++ (value ++ codes "\"")) (no_return-name name (names-attribute name back.0.name))
    (no_return-append value (codes "\"") (no_return-text_by escapes (chars a.value)) refl)))
    (no_return-attributes escapes attributes back.1)

no_return-closing : (self_closing : Bool) → has_no_return (closing_text self_closing) ≡ true
no_return-closing true = refl
no_return-closing false = refl

no_return-rest : (escapes : Escapes) (name : List ℕ) (attributes : List AttributeOf) (self_closing : Bool) → is_tag_name name ≡ true → AreBack attributes
    → has_no_return (name ++ (attributes_text_by escapes attributes ++ closing_text self_closing)) ≡ true
no_return-rest escapes name attributes self_closing h back =
    no_return-append name (attributes_text_by escapes attributes ++ closing_text self_closing) (no_return-name name (names-tag name h))
    (no_return-append (attributes_text_by escapes attributes) (closing_text self_closing) (no_return-attributes escapes attributes back) (no_return-closing self_closing))

-- ---- all of that for a tag that can be written

pub record IsTagBack (escapes : Escapes) (rules : Rules) (tag : TagOf) : Type 0 where
  pub is_written : is_written (written_tag escapes tag) ≡ true
  pub text : written (written_tag escapes tag) ≡ tag_text_by escapes tag
  pub told : tag_told rules (written_tag escapes tag) ≡ without_duplicates tag
  pub no_return : has_no_return (chars tag.name ++ (attributes_text_by escapes tag.attributes ++ closing_text tag.self_closing)) ≡ true

pub tag-back : (escapes : Escapes) (rules : Rules) (tag : TagOf) → ShowsValues rules escapes → IsUtf8 tag.name → AreAttributeTexts tag.attributes → is_tag tag ≡ true → IsTagBack escapes rules tag
tag-back escapes rules tag shows utf8 texts h =
    let p = and_parts (is_tag_name tag.name) (list_all is_attribute tag.attributes && are_distinct tag.attributes) h in
    let q = and_parts (list_all is_attribute tag.attributes) (are_distinct tag.attributes) p.1 in
    let name : is_tag_name (chars tag.name) ≡ true = tag_name-chars tag.name utf8 p.0 in
    let back : AreBack tag.attributes = are-back tag.attributes texts q.0 in
    record {
      is_written = written-named tag.kind (chars tag.name) (parts_of escapes tag.attributes ++ end_parts tag.self_closing) name (follows-name escapes tag.attributes tag.self_closing back);
      text = text-tag escapes tag name back;
      told =
          told-named rules escapes shows tag.kind (chars tag.name) tag.attributes tag.self_closing name back q.1
          ∙ ap (λ bytes. record { kind = tag.kind; name = bytes; self_closing = tag.self_closing; attributes = tag.attributes; had_duplicate_attributes = false }) (encodes-chars tag.name utf8);
      no_return = no_return-rest escapes (chars tag.name) tag.attributes tag.self_closing name back;
    }
