-- A written tag, in the parts of which the grammar makes tags.
use Rattle.std.proofs.Common.{◌≡◌, ℕ, Bool, true, false, List, [], ◌∷◌, ◌++◌, refl, ap, sym, ◌∙◌, subst}
use Rattle.std.specs.Prelude.{flat_map, codes}
use Rattle.std.specs.List.{list_all}
use Rattle.std.proofs.lemmas.Bool.{and_parts, false≢true}
use Rattle.std.proofs.lemmas.List.{append_assoc}
use Rattle.html5ever_interface.specs.declared.interface.token.TagKind.{TagKind}
use Rattle.html5ever_interface.specs.declared.interface.token.TagKind.TheVariants.{StartTag, EndTag}
use Rattle.html5reading.specs.Characters.{space, is_white_space}
use Rattle.html5reading.specs.Start.{Place}
use Rattle.html5reading.specs.Start.Place.{InName, BeforeAttribute, AfterQuotedValue}
use Rattle.html5grammar.specs.Tag.{Part, WrittenTag, part_text, written, is_written, can_follow, place_after_parts, end_error}
use Rattle.html5grammar.specs.Tag.Part.{Blank, Solidus, Attribute}
use Rattle.html5grammar.specs.Tag.Value.{InDoubleQuotes}
use Rattle.html5reading.specs.Tag.{is_after_solidus}
use Rattle.html5write.specs.Escaped.{escaped_text}
use Rattle.html5write.specs.Pieces.{NameAndValue, piece_text, attribute_text, is_tag_name, is_name_character, is_attribute_name, is_attribute_character, is_attribute, has_no_null}
use Rattle.html5write.specs.Pieces.Piece.{StartTagPiece, EndTagPiece}
use Rattle.html5write.proofs.Names.{small-letter, in_tag_name-all, IsAttributeName, attribute-parts, name-parts, begins-attribute, in_attribute_name-all}
use Rattle.html5write.proofs.Values.{in_value-text}

abbrev pub attribute_part : List ℕ → List ℕ → Part
attribute_part [] run = Solidus
attribute_part (c ∷ name) run = Attribute c name [] [] (InDoubleQuotes run)

abbrev pub attribute_parts : NameAndValue → List Part
attribute_parts a = Blank space ∷ attribute_part a.name (escaped_text a.value) ∷ []

abbrev pub parts_of : List NameAndValue → List Part
parts_of attributes = flat_map attribute_parts attributes

abbrev pub tag_of : TagKind → List ℕ → List NameAndValue → WrittenTag
tag_of kind [] attributes = record { kind = kind; first = 0; rest = []; parts = parts_of attributes }
tag_of kind (c ∷ name) attributes = record { kind = kind; first = c; rest = name; parts = parts_of attributes }

-- ---- its text

text-attribute : (name run : List ℕ) → is_attribute_name name ≡ true → part_text (attribute_part name run) ≡ name ++ (codes "=\"" ++ (run ++ codes "\""))
unfolding is_attribute_name
text-attribute [] run h = absurd (false≢true h)
text-attribute (c ∷ name) run h = refl

text-parts : (attributes : List NameAndValue) → list_all is_attribute attributes ≡ true → flat_map part_text (parts_of attributes) ≡ flat_map attribute_text attributes
text-parts [] h = refl
text-parts (a ∷ attributes) h =
    let p = and_parts (is_attribute a) (list_all is_attribute attributes) h in
    let q = and_parts (is_attribute_name a.name) (has_no_null a.value) p.0 in
    rw (text-attribute a.name (escaped_text a.value) q.0, text-parts attributes p.1)
    refl

pub text-start_tag : (name : List ℕ) (attributes : List NameAndValue) → is_tag_name name ≡ true → list_all is_attribute attributes ≡ true
    → written (tag_of StartTag name attributes) ≡ piece_text (StartTagPiece name attributes)
unfolding written is_tag_name
text-start_tag [] attributes h g = absurd (false≢true h)
text-start_tag (c ∷ name) attributes h g =
    rw (text-parts attributes g)
    (ap (λ l. codes "<" ++ (c ∷ l)) (append_assoc name (flat_map attribute_text attributes) (codes ">")))

pub text-end_tag : (name : List ℕ) → is_tag_name name ≡ true → written (tag_of EndTag name []) ≡ piece_text (EndTagPiece name)
unfolding written is_tag_name
text-end_tag [] h = absurd (false≢true h)
text-end_tag (c ∷ name) h = ap (λ l. codes "</" ++ (c ∷ l)) (append_assoc name [] (codes ">"))

-- ---- it is a tag, written out

is_attribute-written : (name value : List ℕ) (later : List Part) → is_attribute_name name ≡ true → can_follow AfterQuotedValue later ≡ true
    → can_follow BeforeAttribute (attribute_part name (escaped_text value) ∷ later) ≡ true
unfolding is_attribute_name can_follow
is_attribute-written [] value later h g = absurd (false≢true h)
is_attribute-written (c ∷ name) value later h g =
    let p = and_parts (is_attribute_character c) (list_all is_attribute_character name) h in
    let a : IsAttributeName c = attribute-parts c p.0 in
    rw (begins-attribute c (name-parts c a.name), in_attribute_name-all name p.1, in_value-text value) g

follows-value : (attributes : List NameAndValue) → list_all is_attribute attributes ≡ true → can_follow AfterQuotedValue (parts_of attributes) ≡ true
unfolding can_follow is_white_space
follows-value [] h = refl
follows-value (a ∷ attributes) h =
    let p = and_parts (is_attribute a) (list_all is_attribute attributes) h in
    let q = and_parts (is_attribute_name a.name) (has_no_null a.value) p.0 in
    is_attribute-written a.name a.value (parts_of attributes) q.0 (follows-value attributes p.1)

follows-name : (attributes : List NameAndValue) → list_all is_attribute attributes ≡ true → can_follow InName (parts_of attributes) ≡ true
unfolding can_follow is_white_space
follows-name [] h = refl
follows-name (a ∷ attributes) h =
    let p = and_parts (is_attribute a) (list_all is_attribute attributes) h in
    let q = and_parts (is_attribute_name a.name) (has_no_null a.value) p.0 in
    is_attribute-written a.name a.value (parts_of attributes) q.0 (follows-value attributes p.1)

pub is_written-tag : (kind : TagKind) (name : List ℕ) (attributes : List NameAndValue) → is_tag_name name ≡ true → list_all is_attribute attributes ≡ true
    → is_written (tag_of kind name attributes) ≡ true
unfolding is_written is_tag_name
is_written-tag kind [] attributes h g = absurd (false≢true h)
is_written-tag kind (c ∷ name) attributes h g =
    let p = and_parts _ (list_all is_name_character name) h in
    rw ((small-letter c p.0).letter, in_tag_name-all name p.1) (follows-name attributes g)

-- ---- where it ends

place-attribute : (name run : List ℕ) (later : List Part) → is_attribute_name name ≡ true
    → place_after_parts BeforeAttribute (attribute_part name run ∷ later) ≡ place_after_parts AfterQuotedValue later
unfolding place_after_parts is_attribute_name
place-attribute [] run later h = absurd (false≢true h)
place-attribute (c ∷ name) run later h = refl

place-value : (attributes : List NameAndValue) → list_all is_attribute attributes ≡ true → place_after_parts AfterQuotedValue (parts_of attributes) ≡ AfterQuotedValue
unfolding place_after_parts
place-value [] h = refl
place-value (a ∷ attributes) h =
    let p = and_parts (is_attribute a) (list_all is_attribute attributes) h in
    place-attribute a.name (escaped_text a.value) (parts_of attributes) (and_parts (is_attribute_name a.name) (has_no_null a.value) p.0).0
    ∙ place-value attributes p.1

-- the place before the `>`
pub record EndsOutside (place : Place) : Type 0 where
  pub no_error : (exact : Bool) → end_error exact place ≡ []
  pub no_solidus : is_after_solidus place ≡ false

pub ends-outside : (attributes : List NameAndValue) → list_all is_attribute attributes ≡ true → EndsOutside (place_after_parts InName (parts_of attributes))
unfolding place_after_parts
ends-outside [] h = record { no_error = λ exact. refl; no_solidus = refl }
ends-outside (a ∷ attributes) h =
    let p = and_parts (is_attribute a) (list_all is_attribute attributes) h in
    subst EndsOutside
    (sym (place-attribute a.name (escaped_text a.value) (parts_of attributes) (and_parts (is_attribute_name a.name) (has_no_null a.value) p.0).0 ∙ place-value attributes p.1))
    (record { no_error = λ exact. refl; no_solidus = refl })
