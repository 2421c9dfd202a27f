-- What a written tag tells.
use Rattle.std.proofs.Common.{◌≡◌, ℕ, Bool, true, false, List, [], ◌∷◌, ◌++◌, refl, ap, sym, ◌∙◌}
use Rattle.std.specs.Prelude.{not, flat_map, map, codes, encode_utf8_all}
use Rattle.std.specs.List.{list_all}
use Rattle.std.specs.Str.{bytes_eq}
use Rattle.std.proofs.lemmas.Bool.{and_parts, not-true, false≢true}
use Rattle.std.proofs.lemmas.List.{append_assoc, append-nil}
use Rattle.html5ever_interface.specs.Token.Told.{Tag}
use Rattle.html5ever_interface.specs.declared.interface.token.TagKind.{TagKind}
use Rattle.html5ever_interface.specs.declared.interface.token.TagKind.TheVariants.{StartTag, EndTag}
use Rattle.html5ever_interface.specs.declared.states.State.TheVariants as state
use Rattle.html5reading.specs.Characters.{is_white_space, greater_than}
use Rattle.html5reading.specs.Start.{Rules}
use Rattle.html5reading.specs.Start.Place.{InName, BeforeAttribute, AfterQuotedValue}
use Rattle.html5reading.specs.Tag.{attribute, has_attribute, null_error, attribute_name_error, place_error, first_error, end_tag_errors}
use Rattle.html5grammar.specs.Spelled.{Spelled, spell, spell_silent}
use Rattle.html5grammar.specs.Tag.{Part, WrittenTag, attributes_with, attributes_with_parts, repeats, has_repeated, kept, spell_part, spell_parts, place_after_parts, end_errors, tag_told, opening, spelled}
use Rattle.html5grammar.proofs.Tag.Values.{both-none}
use Rattle.markup5ever.specs.Names.{AttributeOf}
use Rattle.html5write.specs.Escaped.{escaped_text}
use Rattle.html5write.specs.Pieces.{NameAndValue, is_tag_name, is_name_character, is_attribute_name, is_attribute_character, is_attribute, has_no_null, differs_from, are_distinct}
use Rattle.html5write.specs.Told.{attribute_told, start_tag_told, end_tag_told, spell_escaped, spell_attribute, spell_end, spell_start_tag, spell_end_tag}
use Rattle.html5write.proofs.Names.{attribute-parts, name-parts, names-attribute, no_odd, no_odd_first, shown-name, small-letter}
use Rattle.html5write.proofs.Shapes.{attribute_part, parts_of, tag_of, ends-outside}
use Rattle.html5write.proofs.Values.{spells-value, shown-value}

-- ---- attributes in the order of the grammar, the last one first

abbrev told_after : List AttributeOf → List NameAndValue → List AttributeOf
told_after before [] = before
told_after before (a ∷ attributes) = told_after (attribute_told a ∷ before) attributes

-- none of them has the name of one before them
abbrev are_new : List AttributeOf → List NameAndValue → Bool
are_new before attributes = list_all (λ a. not (has_attribute before (encode_utf8_all a.name))) attributes

new-none : (attributes : List NameAndValue) → are_new [] attributes ≡ true
unfolding has_attribute
new-none [] = refl
new-none (a ∷ attributes) = new-none attributes

new-one : (a : NameAndValue) (before : List AttributeOf) (attributes : List NameAndValue) → are_new before attributes ≡ true → list_all (differs_from a) attributes ≡ true
    → are_new (attribute_told a ∷ before) attributes ≡ true
unfolding has_attribute
new-one a before [] h g = refl
new-one a before (b ∷ attributes) h g =
    let p = and_parts (not (has_attribute before (encode_utf8_all b.name))) (are_new before attributes) h in
    let q = and_parts (differs_from a b) (list_all (differs_from a) attributes) g in
    rw (not-true (bytes_eq (encode_utf8_all a.name) (encode_utf8_all b.name)) q.0, not-true (has_attribute before (encode_utf8_all b.name)) p.0)
    (new-one a before attributes p.1 q.1)

-- what is known of attributes after others
record AreNew (before : List AttributeOf) (attributes : List NameAndValue) : Type 0 where
  repeated : has_repeated before ≡ false
  new : are_new before attributes ≡ true
  distinct : are_distinct attributes ≡ true

new-first : (before : List AttributeOf) (a : NameAndValue) (attributes : List NameAndValue) → AreNew before (a ∷ attributes) → has_attribute before (encode_utf8_all a.name) ≡ false
new-first before a attributes n =
    not-true (has_attribute before (encode_utf8_all a.name)) (and_parts (not (has_attribute before (encode_utf8_all a.name))) (are_new before attributes) n.new).0

new-next : (before : List AttributeOf) (a : NameAndValue) (attributes : List NameAndValue) → AreNew before (a ∷ attributes) → AreNew (attribute_told a ∷ before) attributes
unfolding has_repeated repeats are_distinct
new-next before a attributes n =
    let p = and_parts (list_all (differs_from a) attributes) (are_distinct attributes) n.distinct in
    let q = and_parts (not (has_attribute before (encode_utf8_all a.name))) (are_new before attributes) n.new in
    record {
      repeated = rw (new-first before a attributes n, n.repeated) refl;
      new = new-one a before attributes q.1 p.0;
      distinct = p.1;
    }

all-new : (attributes : List NameAndValue) → are_distinct attributes ≡ true → AreNew [] attributes
unfolding has_repeated
all-new attributes h = record { repeated = refl; new = new-none attributes; distinct = h }

repeated-all : (before : List AttributeOf) (attributes : List NameAndValue) → AreNew before attributes → has_repeated (told_after before attributes) ≡ false
repeated-all before [] n = n.repeated
repeated-all before (a ∷ attributes) n = repeated-all (attribute_told a ∷ before) attributes (new-next before a attributes n)

kept-all : (before : List AttributeOf) (attributes : List NameAndValue) → AreNew before attributes
    → kept (told_after before attributes) ≡ kept before ++ map attribute_told attributes
unfolding kept repeats
kept-all before [] n = sym (append-nil (kept before))
kept-all before (a ∷ attributes) n =
    kept-all (attribute_told a ∷ before) attributes (new-next before a attributes n)
    ∙ rw (new-first before a attributes n) (append_assoc (kept before) (attribute_told a ∷ []) (map attribute_told attributes))

-- the last one repeats no name
last-new : (before : List AttributeOf) → has_repeated before ≡ false → repeats before ≡ false
unfolding has_repeated repeats
last-new [] h = refl
last-new (last ∷ before) h = (both-none (repeats (last ∷ before)) (has_repeated before) h).0

-- ---- names

spells-name : (exact : Bool) (name : List ℕ) → list_all is_attribute_character name ≡ true → spell (attribute_name_error exact) name ≡ spell_silent name
spells-name exact [] h = refl
spells-name exact (c ∷ name) h =
    let p = and_parts (is_attribute_character c) (list_all is_attribute_character name) h in
    rw (no_odd c (attribute-parts c p.0), spells-name exact name p.1) refl

spells-tag_name : (exact : Bool) (name : List ℕ) → list_all is_name_character name ≡ true → spell (null_error exact state.TagName) name ≡ spell_silent name
spells-tag_name exact [] h = refl
spells-tag_name exact (c ∷ name) h =
    let p = and_parts (is_name_character c) (list_all is_name_character name) h in
    rw ((name-parts c p.0).no_null, spells-tag_name exact name p.1) refl

pub names-tag : (name : List ℕ) → is_tag_name name ≡ true → list_all is_name_character name ≡ true
unfolding is_tag_name
names-tag [] h = absurd (false≢true h)
names-tag (c ∷ name) h =
    let p = and_parts _ (list_all is_name_character name) h in
    rw ((small-letter c p.0).name) p.1

module _ (rules : Rules) where
  -- ---- attributes

  spells-attribute : (before : List AttributeOf) (name value : List ℕ) → is_attribute_name name ≡ true → has_no_null value ≡ true → repeats before ≡ false
      → spell_part rules BeforeAttribute before (attribute_part name (escaped_text value))
      ≡ spell_silent name ++ (spell_silent (codes "=\"") ++ (flat_map (spell_escaped rules.exact) value ++ spell_silent (codes "\"")))
  unfolding is_attribute_name place_error first_error
  spells-attribute before [] value h g new = absurd (false≢true h)
  spells-attribute before (c ∷ name) value h g new =
      let p = and_parts (is_attribute_character c) (list_all is_attribute_character name) h in
      rw (no_odd_first c (attribute-parts c p.0), new, spells-name rules.exact name p.1, spells-value rules value g) refl

  with-attribute : (before : List AttributeOf) (name value : List ℕ) → is_attribute_name name ≡ true → has_no_null value ≡ true
      → attributes_with rules before (attribute_part name (escaped_text value)) ≡ attribute (encode_utf8_all name) (encode_utf8_all value) ∷ before
  unfolding is_attribute_name
  with-attribute before [] value h g = absurd (false≢true h)
  with-attribute before (c ∷ name) value h g =
      rw (shown-name (c ∷ name) (names-attribute (c ∷ name) h), shown-value rules value g) refl

  with-all : (before : List AttributeOf) (attributes : List NameAndValue) → list_all is_attribute attributes ≡ true
      → attributes_with_parts rules before (parts_of attributes) ≡ told_after before attributes
  unfolding attributes_with_parts
  with-all before [] h = refl
  with-all before (a ∷ attributes) h =
      let p = and_parts (is_attribute a) (list_all is_attribute attributes) h in
      let q = and_parts (is_attribute_name a.name) (has_no_null a.value) p.0 in
      ap (λ l. attributes_with_parts rules l (parts_of attributes)) (with-attribute before a.name a.value q.0 q.1)
      ∙ with-all (attribute_told a ∷ before) attributes p.1

  after-attribute : (before : List AttributeOf) (name run : List ℕ) (later : List Part) → is_attribute_name name ≡ true
      → spell_parts rules BeforeAttribute before (attribute_part name run ∷ later)
      ≡ spell_part rules BeforeAttribute before (attribute_part name run) ++ spell_parts rules AfterQuotedValue (attributes_with rules before (attribute_part name run)) later
  unfolding spell_parts is_attribute_name
  after-attribute before [] run later h = absurd (false≢true h)
  after-attribute before (c ∷ name) run later h = refl

  -- the parts of an attribute, and then those of others
  spells-parts_of : (before : List AttributeOf) (a : NameAndValue) (attributes : List NameAndValue) (cells : List Spelled) → is_attribute a ≡ true
      → repeats before ≡ false → spell_parts rules AfterQuotedValue (attribute_told a ∷ before) (parts_of attributes) ≡ cells
      → spell_parts rules BeforeAttribute before (attribute_part a.name (escaped_text a.value) ∷ parts_of attributes)
      ≡ (spell_silent a.name ++ (spell_silent (codes "=\"") ++ (flat_map (spell_escaped rules.exact) a.value ++ spell_silent (codes "\"")))) ++ cells
  spells-parts_of before a attributes cells h new later =
      let q = and_parts (is_attribute_name a.name) (has_no_null a.value) h in
      after-attribute before a.name (escaped_text a.value) (parts_of attributes) q.0
      ∙ ap (λ l. l ++ spell_parts rules AfterQuotedValue (attributes_with rules before (attribute_part a.name (escaped_text a.value))) (parts_of attributes)) (spells-attribute before a.name a.value q.0 q.1 new)
      ∙ ap (λ l. (spell_silent a.name ++ (spell_silent (codes "=\"") ++ (flat_map (spell_escaped rules.exact) a.value ++ spell_silent (codes "\"")))) ++ l)
      (ap (λ l. spell_parts rules AfterQuotedValue l (parts_of attributes)) (with-attribute before a.name a.value q.0 q.1) ∙ later)

  spells-attributes : (before : List AttributeOf) (attributes : List NameAndValue) → list_all is_attribute attributes ≡ true → AreNew before attributes
      → spell_parts rules AfterQuotedValue before (parts_of attributes) ≡ flat_map (spell_attribute rules.exact) attributes
  unfolding spell_parts place_error is_white_space
  spells-attributes before [] h n = refl
  spells-attributes before (a ∷ attributes) h n =
      let p = and_parts (is_attribute a) (list_all is_attribute attributes) h in
      ap (λ l. spell_silent (codes " ") ++ l)
      (spells-parts_of before a attributes (flat_map (spell_attribute rules.exact) attributes) p.0 (last-new before n.repeated)
      (spells-attributes (attribute_told a ∷ before) attributes p.1 (new-next before a attributes n)))

  spells-all : (attributes : List NameAndValue) → list_all is_attribute attributes ≡ true → are_distinct attributes ≡ true
      → spell_parts rules InName [] (parts_of attributes) ≡ flat_map (spell_attribute rules.exact) attributes
  unfolding spell_parts place_error
  spells-all [] h distinct = refl
  spells-all (a ∷ attributes) h distinct =
      let p = and_parts (is_attribute a) (list_all is_attribute attributes) h in
      let n : AreNew [] (a ∷ attributes) = all-new (a ∷ attributes) distinct in
      ap (λ l. spell_silent (codes " ") ++ l)
      (spells-parts_of [] a attributes (flat_map (spell_attribute rules.exact) attributes) p.0 (last-new [] n.repeated)
      (spells-attributes (attribute_told a ∷ []) attributes p.1 (new-next [] a attributes n)))

  -- ---- tags

  pub told-start_tag : (name : List ℕ) (attributes : List NameAndValue) → is_tag_name name ≡ true → list_all is_attribute attributes ≡ true → are_distinct attributes ≡ true
      → tag_told rules (tag_of StartTag name attributes) ≡ start_tag_told name attributes
  unfolding is_tag_name kept
  told-start_tag [] attributes h g distinct = absurd (false≢true h)
  told-start_tag (c ∷ name) attributes h g distinct =
      let n : AreNew [] attributes = all-new attributes distinct in
      rw (shown-name (c ∷ name) (names-tag (c ∷ name) h), with-all [] attributes g, kept-all [] attributes n, repeated-all [] attributes n, (ends-outside attributes g).no_solidus) refl

  pub told-end_tag : (name : List ℕ) → is_tag_name name ≡ true → tag_told rules (tag_of EndTag name []) ≡ end_tag_told name
  unfolding is_tag_name kept has_repeated attributes_with_parts place_after_parts
  told-end_tag [] h = absurd (false≢true h)
  told-end_tag (c ∷ name) h = rw (shown-name (c ∷ name) (names-tag (c ∷ name) h)) refl

  errors-start_tag : (name : List ℕ) (attributes : List NameAndValue) → is_tag_name name ≡ true → list_all is_attribute attributes ≡ true → are_distinct attributes ≡ true
      → end_errors rules (tag_of StartTag name attributes) ≡ []
  unfolding is_tag_name end_tag_errors
  errors-start_tag [] attributes h g distinct = absurd (false≢true h)
  errors-start_tag (c ∷ name) attributes h g distinct =
      let n : AreNew [] attributes = all-new attributes distinct in
      rw ((ends-outside attributes g).no_error rules.exact, with-all [] attributes g, last-new _ (repeated-all [] attributes n)) refl

  errors-end_tag : (name : List ℕ) → is_tag_name name ≡ true → end_errors rules (tag_of EndTag name []) ≡ []
  unfolding is_tag_name end_tag_errors kept repeats has_repeated attributes_with_parts place_after_parts
  errors-end_tag [] h = absurd (false≢true h)
  errors-end_tag (c ∷ name) h = refl

  -- what a tag spells, from its parts
  spells-tag : (kind : TagKind) (c : ℕ) (name : List ℕ) (attributes : List NameAndValue) (cells : List Spelled) → list_all is_name_character (c ∷ name) ≡ true
      → spell_parts rules InName [] (parts_of attributes) ≡ cells → end_errors rules (tag_of kind (c ∷ name) attributes) ≡ []
      → spelled rules (tag_of kind (c ∷ name) attributes)
      ≡ spell_silent (opening kind) ++ (spell_silent (c ∷ name) ++ (cells ++ spell_end (Tag (tag_told rules (tag_of kind (c ∷ name) attributes)))))
  unfolding spelled
  spells-tag kind c name attributes cells all parts errors =
      let tag : WrittenTag = tag_of kind (c ∷ name) attributes in
      let last : List Spelled = spell_end (Tag (tag_told rules tag)) in
      ap (λ e. (spell_silent (opening kind) ++ (spell (null_error rules.exact state.TagName) (c ∷ name) ++ spell_parts rules InName [] tag.parts)) ++ record { character = greater_than; told = e ++ Tag (tag_told rules tag) ∷ [] } ∷ []) errors
      ∙ ap (λ l. (spell_silent (opening kind) ++ (l ++ spell_parts rules InName [] tag.parts)) ++ last) (spells-tag_name rules.exact (c ∷ name) all)
      ∙ ap (λ l. (spell_silent (opening kind) ++ (spell_silent (c ∷ name) ++ l)) ++ last) parts
      ∙ append_assoc (spell_silent (opening kind)) (spell_silent (c ∷ name) ++ cells) last
      ∙ ap (λ l. spell_silent (opening kind) ++ l) (append_assoc (spell_silent (c ∷ name)) cells last)

  pub spells-start_tag : (name : List ℕ) (attributes : List NameAndValue) → is_tag_name name ≡ true → list_all is_attribute attributes ≡ true → are_distinct attributes ≡ true
      → spelled rules (tag_of StartTag name attributes) ≡ spell_start_tag rules.exact name attributes
  unfolding is_tag_name
  spells-start_tag [] attributes h g distinct = absurd (false≢true h)
  spells-start_tag (c ∷ name) attributes h g distinct =
      spells-tag StartTag c name attributes (flat_map (spell_attribute rules.exact) attributes) (names-tag (c ∷ name) h) (spells-all attributes g distinct)
      (errors-start_tag (c ∷ name) attributes h g distinct)
      ∙ ap (λ t. spell_silent (codes "<") ++ (spell_silent (c ∷ name) ++ (flat_map (spell_attribute rules.exact) attributes ++ spell_end (Tag t)))) (told-start_tag (c ∷ name) attributes h g distinct)

  pub spells-end_tag : (name : List ℕ) → is_tag_name name ≡ true → spelled rules (tag_of EndTag name []) ≡ spell_end_tag name
  unfolding is_tag_name spell_parts
  spells-end_tag [] h = absurd (false≢true h)
  spells-end_tag (c ∷ name) h =
      spells-tag EndTag c name [] [] (names-tag (c ∷ name) h) refl (errors-end_tag (c ∷ name) h)
      ∙ ap (λ t. spell_silent (codes "</") ++ (spell_silent (c ∷ name) ++ spell_end (Tag t))) (told-end_tag (c ∷ name) h)
