-- The attributes of one tag: those that the machine holds, and their names.
use Rattle.std.proofs.Common.{◌≡◌, ℕ, Bool, true, false, List, [], ◌∷◌, ◌++◌, refl, ap, sym, ◌∙◌, subst, length, arith}
use Rattle.std.specs.Prelude.{◌||◌, nat_eq, if◌then◌else◌}
use Rattle.std.specs.List.{list_all}
use Rattle.std.specs.Str.{bytes_eq}
use Rattle.std.proofs.lemmas.Bool.{and_parts, ne_eqb}
use Rattle.std.proofs.lemmas.Slice.Eq.{bytes_eq-Decides}
use lib.Dec.{ltb}
use lib.Utf8.{encode}
use Rattle.html5ever_interface.specs.declared.interface.token.TagKind.{TagKind}
use Rattle.html5reading.specs.Characters.{equals_sign, is_white_space, name_bytes}
use Rattle.html5grammar.specs.Tag.{Value, Part, spell_name, begins_attribute, takes_attribute, is_attribute_name, place_after_value, place_after, place_after_parts, name_shown, repeats, has_repeated, kept, repeated_error, tag_with}
use Rattle.html5grammar.specs.Spelled.{spell, spell_silent}
use Rattle.html5grammar.specs.Tag.Part.{Blank, Solidus, Name, Attribute}
use Rattle.html5grammar.specs.Tag.Value.{InDoubleQuotes, InSingleQuotes, Bare}
use Rattle.html5reading.specs.Reading.Here.{Tells}
use Rattle.html5reading.specs.Start.{OpenTag, Place}
use Rattle.html5reading.specs.Start.Place.{InName, BeforeAttribute, InAttributeName, AfterAttributeName, BeforeValue, InValue, AfterQuotedValue, AfterSolidus}
use Rattle.html5reading.specs.Start.Open.{InTag}
use Rattle.html5reading.specs.Tag.{attribute, has_attribute, repeats_attribute, with_last_attribute, duplicate_error, in_attribute_name, attribute_name_error, with_last_name, place_error, first_error}
use Rattle.html5reading.specs.Machine.{step_at, tag_step, attribute_name_step, after_attribute_name_step}
use Rattle.html5grammar.proofs.Tag.Steps.{can_end, goes-attribute_name, goes-space_after_name, goes-space_before_value, step-blank, step-first}
use Rattle.html5grammar.proofs.Goes.{Goes, Goes-append}
use Rattle.html5reading.proofs.Slices.{with_last_name-cons}
use Rattle.markup5ever.specs.Names.{AttributeOf}

-- ---- attributes

or-swap : (a x h : Bool) → (x || (a || h)) ≡ (a || (x || h))
or-swap true true h = refl
or-swap true false h = refl
or-swap false true h = refl
or-swap false false h = refl

has_attribute-last : (attributes : List AttributeOf) (last : AttributeOf) (name : List ℕ)
    → has_attribute (attributes ++ last ∷ []) name ≡ (bytes_eq last.name.local name || has_attribute attributes name)
unfolding has_attribute
has_attribute-last [] last name = refl
has_attribute-last (a ∷ attributes) last name =
    ap (λ h. bytes_eq a.name.local name || h) (has_attribute-last attributes last name)
    ∙ or-swap (bytes_eq last.name.local name) (bytes_eq a.name.local name) (has_attribute attributes name)

or-absorbed : (x y : Bool) → (x ≡ true → y ≡ true) → y ≡ (x || y)
or-absorbed true y h = h refl
or-absorbed false y h = refl

has-kept_if : (last : AttributeOf) (before : List AttributeOf) (name : List ℕ) (repeated : Bool) → has_attribute before last.name.local ≡ repeated
    → has_attribute (kept before) name ≡ has_attribute before name
    → has_attribute (if repeated then kept before else kept before ++ last ∷ []) name ≡ (bytes_eq last.name.local name || has_attribute before name)
has-kept_if last before name true e ih =
    ih ∙ or-absorbed (bytes_eq last.name.local name) (has_attribute before name)
    (λ same. ap (has_attribute before) (sym ((bytes_eq-Decides last.name.local name).0 same)) ∙ e)
has-kept_if last before name false e ih =
    has_attribute-last (kept before) last name ∙ ap (λ h. bytes_eq last.name.local name || h) ih

-- the attributes that are kept have the names of all
has-kept : (attributes : List AttributeOf) (name : List ℕ) → has_attribute (kept attributes) name ≡ has_attribute attributes name
unfolding kept repeats has_attribute
has-kept [] name = refl
has-kept (last ∷ before) name = has-kept_if last before name (has_attribute before last.name.local) refl (has-kept before name)

-- the machine's tag is the one with the attributes that are written before
pub record Holds (kind : TagKind) (name : List ℕ) (before : List AttributeOf) (tag : OpenTag) : Type 0 where
  pub closed : with_last_attribute tag ≡ tag_with kind name before
  pub error : duplicate_error tag ≡ repeated_error before

pub Holds-none : (kind : TagKind) (name : List ℕ)
    → Holds kind name [] (record { kind = kind; name = name; attributes = []; had_duplicate_attributes = false; last_name = []; last_value = [] })
unfolding with_last_attribute duplicate_error kept has_repeated repeats
Holds-none kind name = record { closed = refl; error = refl }

-- the tag with one more attribute, which is still open
abbrev pub with_attribute : TagKind → List ℕ → List AttributeOf → List ℕ → List ℕ → OpenTag
with_attribute kind name before n v = record (tag_with kind name before) { last_name = n; last_value = v }

-- the tag after one attribute more, which is dropped where its name is repeated
closed-if : (kind : TagKind) (name : List ℕ) (before : List AttributeOf) (n v : List ℕ) (repeated : Bool)
    → (if repeated then record (tag_with kind name before) { had_duplicate_attributes = true }
    else record (tag_with kind name before) { attributes = kept before ++ attribute n v ∷ [] })
    ≡ record {
      kind = kind;
      name = name;
      attributes = if repeated then kept before else kept before ++ attribute n v ∷ [];
      had_duplicate_attributes = repeated || has_repeated before;
      last_name = [];
      last_value = [];
    }
closed-if kind name before n v true = refl
closed-if kind name before n v false = refl

pub Holds-attribute : (kind : TagKind) (name : List ℕ) (before : List AttributeOf) (n v : List ℕ) → nat_eq (length n) 0 ≡ false
    → Holds kind name (attribute n v ∷ before) (with_attribute kind name before n v)
unfolding with_last_attribute duplicate_error repeats_attribute kept has_repeated repeats
Holds-attribute kind name before n v some = record {
  closed = rw (some, has-kept before n) (closed-if kind name before n v (has_attribute before n));
  error = rw (some, has-kept before n) refl;
}

-- a name is not empty

record IsFilled (bytes : List ℕ) : Type 0 where
  some : (more : List ℕ) → nat_eq (length (bytes ++ more)) 0 ≡ false

IsFilled-cons : (b : ℕ) (bytes : List ℕ) → IsFilled (b ∷ bytes)
IsFilled-cons b bytes = record { some = λ more. ne_eqb (length (b ∷ (bytes ++ more))) 0 (λ e. omega (arith, e)) }

IsFilled-if : (test : Bool) (a b : List ℕ) → IsFilled a → IsFilled b → IsFilled (if test then a else b)
IsFilled-if true a b f g = f
IsFilled-if false a b f g = g

IsFilled-encode : (c : ℕ) → IsFilled (encode c)
unfolding encode
IsFilled-encode c =
    IsFilled-if (ltb c 128) _ _ (IsFilled-cons _ _)
    (IsFilled-if (ltb c 2048) _ _ (IsFilled-cons _ _) (IsFilled-if (ltb c 65536) _ _ (IsFilled-cons _ _) (IsFilled-cons _ _)))

pub name-some : (first : ℕ) (rest : List ℕ) → nat_eq (length (name_shown first rest)) 0 ≡ false
unfolding name_bytes
name-some first rest = (IsFilled-encode _).some _

-- ---- parts

module _ (exact : Bool) where
  -- white space and `=` after an attribute's name
  pub goes-equals : (tag : OpenTag) (space afterwards : List ℕ) → list_all is_white_space space ≡ true → list_all is_white_space afterwards ≡ true
      → Goes exact (InTag InAttributeName tag) (spell_silent space ++ spell_silent (equals_sign ∷ afterwards)) (InTag BeforeValue tag)
  unfolding Goes step_at tag_step attribute_name_step after_attribute_name_step in_attribute_name is_white_space place_error
  goes-equals tag [] afterwards white_space white_after = (InTag BeforeValue tag, refl, goes-space_before_value exact tag afterwards white_after)
  goes-equals tag (c ∷ space) afterwards white_space white_after =
      let p = and_parts (is_white_space c) (list_all is_white_space space) white_space in (
        InTag AfterAttributeName tag,
        step-blank exact InAttributeName tag c refl p.0,
        Goes-append exact (InTag AfterAttributeName tag) (InTag AfterAttributeName tag) (InTag BeforeValue tag) (spell_silent space) (spell_silent (equals_sign ∷ afterwards))
            (goes-space_after_name exact tag space p.1)
            (InTag BeforeValue tag, refl, goes-space_before_value exact tag afterwards white_after),
      )

  module _ (kind : TagKind) (name : List ℕ) where
    -- the walk reads the name of an attribute as its spelled characters say
    pub goes-name_of_attribute : (place : Place) (before : List AttributeOf) (tag : OpenTag) (first : ℕ) (rest : List ℕ)
        → Holds kind name before tag → is_attribute_name place first rest ≡ true
        → Goes exact (InTag place tag) (spell_name exact place before first rest) (InTag InAttributeName (with_attribute kind name before (name_shown first rest) []))
    unfolding Goes
    goes-name_of_attribute place before tag first rest holds h =
        let p = and_parts (takes_attribute place first) _ h in
        let q = and_parts (begins_attribute first) (list_all in_attribute_name rest) p.1 in
        let begun : OpenTag = with_last_name (with_last_attribute tag) (first ∷ []) in (
          InTag InAttributeName begun,
          step-first exact place tag first p.0 q.0 ∙ ap (λ errors. Tells (place_error exact place first ++ (first_error exact place first ++ errors)) (InTag InAttributeName begun)) holds.error,
          subst (λ t. Goes exact (InTag InAttributeName begun) (spell (attribute_name_error exact) rest) (InTag InAttributeName t))
              (sym (with_last_name-cons (with_last_attribute tag) first rest) ∙ ap (λ t. with_last_name t (first ∷ rest)) holds.closed)
              (goes-attribute_name exact begun rest q.1),
        )

-- parts end at a place where the tag can end

can_end-value : (value : Value) → can_end (place_after_value value) ≡ true
can_end-value (InDoubleQuotes run) = refl
can_end-value (InSingleQuotes run) = refl
can_end-value (Bare []) = refl
can_end-value (Bare (c ∷ run)) = refl

-- after each part a tag can end
can_end-part : (place : Place) (part : Part) → can_end (place_after place part) ≡ true
can_end-part InName (Blank c) = refl
can_end-part BeforeAttribute (Blank c) = refl
can_end-part InAttributeName (Blank c) = refl
can_end-part AfterAttributeName (Blank c) = refl
can_end-part BeforeValue (Blank c) = refl
can_end-part (InValue kind) (Blank c) = refl
can_end-part AfterQuotedValue (Blank c) = refl
can_end-part AfterSolidus (Blank c) = refl
can_end-part place Solidus = refl
can_end-part place (Name first rest) = refl
can_end-part place (Attribute first rest space afterwards value) = can_end-value value

pub can_end-parts : (place : Place) (parts : List Part) → can_end place ≡ true → can_end (place_after_parts place parts) ≡ true
unfolding place_after_parts
can_end-parts place [] h = h
can_end-parts place (part ∷ parts) h = can_end-parts (place_after place part) parts (can_end-part place part)
