-- The tags of a page can be written, except for what is known of all their attributes together.
use Rattle.std.proofs.Common.{◌≡◌, ℕ, ◌≤◌, ◌<◌, true, false, List, [], ◌∷◌, ◌++◌, refl, ◌∙◌, ⊎_elim, arith}
use Rattle.std.specs.Prelude.{◌==◌, ◌||◌, ◌&&◌, not, flat_map, encode_utf8, if◌then◌else◌}
use Rattle.std.specs.Char.{to_ascii_lowercase}
use Rattle.std.specs.List.{list_all}
use Rattle.std.proofs.lemmas.Bool.{and_parts, not-true, cases_lt}
use Rattle.std.proofs.lemmas.Bool.Decides.{nat_tests}
use Rattle.std.proofs.lemmas.List.Folds.{list_all-append}
use Rattle.std.proofs.lemmas.Str.{encode_ascii}
use Rattle.html5ever_interface.specs.Token.Told.{Tag}
use Rattle.html5reading.specs.Characters.{null, solidus, greater_than, equals_sign, carriage_return, replacement_character, is_between, is_letter, is_white_space, shown, name_bytes, value_bytes}
use Rattle.html5reading.specs.Lawful.{has_no_null}
use Rattle.html5reading.specs.Start.{Place, Rules}
use Rattle.html5reading.specs.Start.Place.{InName}
use Rattle.html5reading.specs.Tag.{in_tag_name, in_attribute_name}
use Rattle.html5reading.proofs.LawfulBytes.{all-encode, all-append}
use Rattle.html5grammar.specs.Tag as grammar
use Rattle.html5grammar.specs.Tag.{Value, Part, WrittenTag, opening, part_text, value_text, written, is_written, can_stand, can_follow, place_after, begins_attribute, name_shown, value_shown, attributes_with, attributes_with_parts, repeats, kept, decoded, tag_told}
use Rattle.html5grammar.specs.Tag.Part.{Blank, Solidus, Name, Attribute}
use Rattle.html5grammar.specs.Tag.Value.{InDoubleQuotes, InSingleQuotes, Bare}
use Rattle.html5grammar.proofs.Tag.Values.{both-none}
use Rattle.markup5ever.specs.Names.{AttributeOf}
use Rattle.html5serialize.specs.Tags.{is_later_character, is_attribute_name, is_attribute}
use Rattle.html5serialize.proofs.Shaped.{is_shaped}
use Rattle.html5serialize.proofs.TagBack.{high-name, high-later}
use Rattle.html5serialize.proofs.Utf8Bytes.{AreHigh, High, high-encode, all-parts}
use Rattle.html5write.specs.Pieces.{is_name_character, is_tag_name}
use Rattle.html5write.specs.Told.{has_no_return}

-- ---- characters of names, as they are shown

lower-name : (c : ℕ) → is_white_space c ≡ false → (c == solidus) ≡ false → (c == greater_than) ≡ false → (c == carriage_return) ≡ false → (c == null) ≡ false
    → is_name_character (to_ascii_lowercase c) ≡ true
unfolding is_name_character is_white_space
lower-name c w s g r n = grind (arith, nat_tests)

shown-name : (c : ℕ) → is_white_space c ≡ false → (c == solidus) ≡ false → (c == greater_than) ≡ false → (c == carriage_return) ≡ false
    → is_name_character (to_ascii_lowercase (shown c)) ≡ true
unfolding shown is_name_character is_white_space
shown-name c w s g r =
    (elim (c == null) as (λ b. (c == null) ≡ b → is_name_character (to_ascii_lowercase (if b then replacement_character else c)) ≡ true) [
      | true ↦ λ e. refl
      | false ↦ λ e. lower-name c w s g r e
    ]) refl

shown-later : (c : ℕ) → (c == equals_sign) ≡ false → not (to_ascii_lowercase (shown c) == equals_sign) ≡ true
unfolding shown
shown-later c e = grind (arith, nat_tests)

within-name : (c : ℕ) → in_tag_name c ≡ true → not (c == carriage_return) ≡ true → is_name_character (to_ascii_lowercase (shown c)) ≡ true
unfolding in_tag_name
within-name c h r =
    let a = both-none (is_white_space c || (c == solidus)) (c == greater_than) (not-true _ h) in
    let b = both-none (is_white_space c) (c == solidus) a.0 in
    shown-name c b.0 b.1 a.1 (not-true (c == carriage_return) r)

within-first : (c : ℕ) → begins_attribute c ≡ true → not (c == carriage_return) ≡ true → is_name_character (to_ascii_lowercase (shown c)) ≡ true
unfolding begins_attribute
within-first c h r =
    let a = both-none (is_white_space c || (c == solidus)) (c == greater_than) (not-true _ h) in
    let b = both-none (is_white_space c) (c == solidus) a.0 in
    shown-name c b.0 b.1 a.1 (not-true (c == carriage_return) r)

within-later : (c : ℕ) → in_attribute_name c ≡ true → not (c == carriage_return) ≡ true → is_later_character (to_ascii_lowercase (shown c)) ≡ true
unfolding in_attribute_name
within-later c h r =
    let a = both-none (is_white_space c || (c == solidus) || (c == greater_than)) (c == equals_sign) (not-true _ h) in
    let b = both-none (is_white_space c || (c == solidus)) (c == greater_than) a.0 in
    let d = both-none (is_white_space c) (c == solidus) b.0 in
    rw (shown-name c d.0 d.1 b.1 (not-true (c == carriage_return) r), shown-later c a.1) refl

-- ---- the bytes of names

bytes-name : (run : List ℕ) → list_all in_tag_name run ≡ true → has_no_return run ≡ true → list_all is_name_character (flat_map name_bytes run) ≡ true
unfolding name_bytes
bytes-name [] h r = refl
bytes-name (c ∷ run) h r =
    let p = and_parts (in_tag_name c) (list_all in_tag_name run) h in
    let q = and_parts (not (c == carriage_return)) (has_no_return run) r in
    all-append is_name_character (name_bytes c) (flat_map name_bytes run)
    (all-encode is_name_character high-name (to_ascii_lowercase (shown c)) (within-name c p.0 q.0)) (bytes-name run p.1 q.1)

bytes-later : (run : List ℕ) → list_all in_attribute_name run ≡ true → has_no_return run ≡ true → list_all is_later_character (flat_map name_bytes run) ≡ true
unfolding name_bytes
bytes-later [] h r = refl
bytes-later (c ∷ run) h r =
    let p = and_parts (in_attribute_name c) (list_all in_attribute_name run) h in
    let q = and_parts (not (c == carriage_return)) (has_no_return run) r in
    all-append is_later_character (name_bytes c) (flat_map name_bytes run)
    (all-encode is_later_character high-later (to_ascii_lowercase (shown c)) (within-later c p.0 q.0)) (bytes-later run p.1 q.1)

later-high : (bytes : List ℕ) → AreHigh bytes → list_all is_later_character bytes ≡ true
later-high [] h = refl
later-high (b ∷ bytes) h = rw (high-later b h.0) (later-high bytes h.1)

-- a name by the bytes of its first character, and those of the rest
first-bytes : (d : ℕ) (bytes : List ℕ) → is_name_character d ≡ true → list_all is_later_character bytes ≡ true → is_attribute_name (encode_utf8 d ++ bytes) ≡ true
unfolding is_attribute_name
first-bytes d bytes h g =
    ⊎_elim
    (λ (a : d < 128). rw (encode_ascii d a, h) g)
    (λ (a : 128 ≤ d).
    let e : High d = high-encode d a in
    rw (e.is, high-name e.first e.high) (all-append is_later_character e.more bytes (later-high e.more e.all) g))
    (cases_lt d 128)

pub shape-attribute_name : (place : Place) (first : ℕ) (rest : List ℕ) → grammar.is_attribute_name place first rest ≡ true → has_no_return (first ∷ rest) ≡ true
    → is_attribute_name (name_shown first rest) ≡ true
unfolding name_bytes
shape-attribute_name place first rest h r =
    let p = and_parts (grammar.takes_attribute place first) (begins_attribute first && list_all in_attribute_name rest) h in
    let q = and_parts (begins_attribute first) (list_all in_attribute_name rest) p.1 in
    let n = and_parts (not (first == carriage_return)) (has_no_return rest) r in
    first-bytes (to_ascii_lowercase (shown first)) (flat_map name_bytes rest) (within-first first q.0 n.0) (bytes-later rest q.1 n.1)

-- ---- values

no_null-shown : (c : ℕ) → not (shown c == null) ≡ true
unfolding shown
no_null-shown c =
    (elim (c == null) as (λ b. (c == null) ≡ b → not ((if b then replacement_character else c) == null) ≡ true) [
      | true ↦ λ e. refl
      | false ↦ λ e. rw e refl
    ]) refl

high-no_null : (b : ℕ) → 128 ≤ b → not (b == null) ≡ true
high-no_null b h = grind (arith, nat_tests)

pub no_null-values : (run : List ℕ) → has_no_null (flat_map value_bytes run) ≡ true
unfolding has_no_null value_bytes
no_null-values [] = refl
no_null-values (c ∷ run) =
    all-append (λ b. not (b == null)) (value_bytes c) (flat_map value_bytes run)
    (all-encode (λ b. not (b == null)) high-no_null (shown c) (no_null-shown c)) (no_null-values run)

no_null-value : (rules : Rules) (value : Value) → has_no_null (value_shown rules value) ≡ true
no_null-value rules (InDoubleQuotes run) = no_null-values _
no_null-value rules (InSingleQuotes run) = no_null-values _
no_null-value rules (Bare run) = no_null-values _

no_null-empty : has_no_null [] ≡ true
unfolding has_no_null
no_null-empty = refl

-- ---- attributes

shape-name : (place : Place) (first : ℕ) (rest value : List ℕ) → grammar.is_attribute_name place first rest ≡ true → has_no_return (first ∷ rest) ≡ true → has_no_null value ≡ true
    → (is_attribute_name (name_shown first rest) && has_no_null value) ≡ true
shape-name place first rest value h r v = rw (shape-attribute_name place first rest h r, v) refl

module _ (rules : Rules) where
  shape-part : (place : Place) (before : List AttributeOf) (part : Part) → list_all is_attribute before ≡ true → can_stand place part ≡ true → has_no_return (part_text part) ≡ true
      → list_all is_attribute (attributes_with rules before part) ≡ true
  shape-part place before (Blank c) all h r = all
  shape-part place before Solidus all h r = all
  shape-part place before (Name first rest) all h r = rw (shape-name place first rest [] h r no_null-empty) all
  shape-part place before (Attribute first rest space afterwards value) all h r =
      let p = and_parts (grammar.is_attribute_name place first rest) _ h in
      let n = all-parts (λ c. not (c == carriage_return)) (first ∷ rest) (space ++ (equals_sign ∷ afterwards ++ value_text value)) r in
      rw (shape-name place first rest (value_shown rules value) p.0 n.0 (no_null-value rules value)) all

  shape-parts : (place : Place) (before : List AttributeOf) (parts : List Part) → list_all is_attribute before ≡ true → can_follow place parts ≡ true
      → has_no_return (flat_map part_text parts) ≡ true → list_all is_attribute (attributes_with_parts rules before parts) ≡ true
  unfolding can_follow attributes_with_parts
  shape-parts place before [] all h r = all
  shape-parts place before (part ∷ parts) all h r =
      let p = and_parts (can_stand place part) (can_follow (place_after place part) parts) h in
      let n = all-parts (λ c. not (c == carriage_return)) (part_text part) (flat_map part_text parts) r in
      shape-parts (place_after place part) (attributes_with rules before part) parts (shape-part place before part all p.0 n.0) p.1 n.1

shape-kept : (before : List AttributeOf) → list_all is_attribute before ≡ true → list_all is_attribute (kept before) ≡ true
unfolding kept
shape-kept [] h = refl
shape-kept (last ∷ before) h =
    let p = and_parts (is_attribute last) (list_all is_attribute before) h in
    let rest : list_all is_attribute (kept before) ≡ true = shape-kept before p.1 in
    elim (repeats (last ∷ before)) as (λ b. list_all is_attribute (if b then kept before else kept before ++ last ∷ []) ≡ true) [
      | true ↦ rest
      | false ↦ list_all-append is_attribute (kept before) (last ∷ []) ∙ rw (rest, p.0) refl
    ]

-- ---- tags

letter-bytes : (c : ℕ) → is_letter c ≡ true → name_bytes c ≡ to_ascii_lowercase c ∷ []
unfolding name_bytes shown is_letter
letter-bytes c h =
    let other : (c == null) ≡ false = grind (arith, nat_tests) in
    let low : to_ascii_lowercase c < 128 = grind (arith, nat_tests) in
    rw other (encode_ascii (to_ascii_lowercase c) low)

letter-lower : (c : ℕ) → is_letter c ≡ true → is_between 0x0061 0x007A (to_ascii_lowercase c) ≡ true
unfolding is_letter
letter-lower c h = grind (arith, nat_tests)

shape-tag_name : (first : ℕ) (rest : List ℕ) → is_letter first ≡ true → list_all in_tag_name rest ≡ true → has_no_return rest ≡ true → is_tag_name (name_shown first rest) ≡ true
unfolding is_tag_name
shape-tag_name first rest l h r = rw (letter-bytes first l, letter-lower first l) (bytes-name rest h r)

pub shape-tag : (rules : Rules) (tag : WrittenTag) → is_written tag ≡ true → has_no_return (written tag) ≡ true → is_shaped true (Tag (tag_told rules tag)) ≡ true
unfolding is_written written
shape-tag rules tag h r =
    let p = and_parts (is_letter tag.first) (list_all in_tag_name tag.rest && can_follow InName tag.parts) h in
    let q = and_parts (list_all in_tag_name tag.rest) (can_follow InName tag.parts) p.1 in
    let a = all-parts (λ c. not (c == carriage_return)) (opening tag.kind ++ (tag.first ∷ tag.rest ++ flat_map part_text tag.parts)) (greater_than ∷ []) r in
    let b = all-parts (λ c. not (c == carriage_return)) (opening tag.kind) (tag.first ∷ tag.rest ++ flat_map part_text tag.parts) a.0 in
    let d = all-parts (λ c. not (c == carriage_return)) (tag.first ∷ tag.rest) (flat_map part_text tag.parts) b.1 in
    let e = and_parts (not (tag.first == carriage_return)) (has_no_return tag.rest) d.0 in
    rw (shape-tag_name tag.first tag.rest p.0 q.0 e.1)
    (shape-kept (attributes_with_parts rules [] tag.parts) (shape-parts rules InName [] tag.parts refl q.1 d.1))
