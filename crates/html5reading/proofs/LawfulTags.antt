-- Tags that are open, so that they will be lawful when they are sent, and doctypes.
use Rattle.std.proofs.Common.{◌≡◌, ℕ, Bool, true, false, not, List, [], ◌∷◌, ◌++◌, refl, sym, ap, ◌∙◌, subst}
use Rattle.std.specs.Prelude.{flat_map, IfSome, option_map, None, Some, if◌then◌else◌}
use Rattle.std.specs.List.{list_all, list_any, IsDistinct}
use Rattle.std.specs.Str.{bytes_eq}
use Rattle.std.proofs.lemmas.Cmp.{nat_list_eq_equiv}
use Rattle.std.proofs.lemmas.List.{map-append}
use Rattle.std.proofs.lemmas.List.Folds.{list_all-append}
use Rattle.std.proofs.lemmas.Map.Keys.{IsDistinct-push}
use Rattle.html5ever_interface.specs.Token.{DoctypeOf, empty_doctype}
use Rattle.html5ever_interface.specs.declared.interface.token.TagKind.{TagKind}
use Rattle.html5ever_interface.specs.declared.states.DoctypeIdKind.{DoctypeIdKind}
use Rattle.html5ever_interface.specs.declared.states.DoctypeIdKind.TheVariants.{Public, System}
use Rattle.html5reading.specs.Characters.{is_letter, name_bytes}
use Rattle.html5reading.specs.Doctype.{with_quirks, with_doctype_name, with_first_of_name, with_begun_identifier, with_identifier}
use Rattle.html5reading.specs.Lawful.{has_no_capital, begins_with_letter, attribute_names, IsLawfulTag, IsLawfulDoctype}
use Rattle.html5reading.specs.Reference.{with_value}
use Rattle.html5reading.specs.Start.{OpenTag, begun}
use Rattle.html5reading.specs.Tag.{attribute, has_last, has_attribute, repeats_attribute, with_last_attribute, told_tag, with_last_name, with_name}
use Rattle.html5reading.proofs.LawfulBytes.{no_capital-more, no_capital-names, begins-letter, begins-append}
use Rattle.markup5ever.specs.Names.{AttributeOf}

-- the names of its attributes without the last one are decided
pub record IsFitTag (tag : OpenTag) : Type 0 where
  pub begins : begins_with_letter tag.name ≡ true
  pub name : has_no_capital tag.name ≡ true
  pub attributes : list_all has_no_capital (attribute_names tag.attributes) ≡ true
  pub distinct : IsDistinct bytes_eq (attribute_names tag.attributes)
  pub last : has_no_capital tag.last_name ≡ true

-- ---- the name

pub fit-name : (tag : OpenTag) (run : List ℕ) → IsFitTag tag → IsFitTag (with_name tag run)
fit-name tag run fit = record {
  begins = begins-append tag.name (flat_map name_bytes run) fit.begins;
  name = no_capital-more tag.name run fit.name;
  attributes = fit.attributes;
  distinct = fit.distinct;
  last = fit.last;
}

-- a tag that begins with a letter
pub fit-begun : (kind : TagKind) (c : ℕ) (run : List ℕ) → is_letter c ≡ true → IsFitTag (with_name (begun kind) (c ∷ run))
unfolding has_no_capital IsDistinct
fit-begun kind c run h = record {
  begins = begins-letter c (flat_map name_bytes run) h;
  name = no_capital-names (c ∷ run);
  attributes = refl;
  distinct = tt;
  last = refl;
}

-- ---- attributes

pub fit-value : (tag : OpenTag) (run : List ℕ) → IsFitTag tag → IsFitTag (with_value tag run)
fit-value tag run fit = record { begins = fit.begins; name = fit.name; attributes = fit.attributes; distinct = fit.distinct; last = fit.last }

pub fit-last_name : (tag : OpenTag) (run : List ℕ) → IsFitTag tag → IsFitTag (with_last_name tag run)
fit-last_name tag run fit = record {
  begins = fit.begins;
  name = fit.name;
  attributes = fit.attributes;
  distinct = fit.distinct;
  last = no_capital-more tag.last_name run fit.last;
}

-- whether an attribute has the name is whether the name is among theirs
has_attribute-any : (attributes : List AttributeOf) (name : List ℕ) → has_attribute attributes name ≡ list_any (bytes_eq name) (attribute_names attributes)
unfolding has_attribute
has_attribute-any [] name = refl
has_attribute-any (a ∷ attributes) name = rw (nat_list_eq_equiv.symm a.name.local name, has_attribute-any attributes name) refl

names-push : (attributes : List AttributeOf) (name value : List ℕ) → attribute_names (attributes ++ attribute name value ∷ []) ≡ attribute_names attributes ++ name ∷ []
names-push attributes name value = map-append (λ (a : AttributeOf). a.name.local) attributes (attribute name value ∷ [])

-- the tag with the last attribute among the others, where its name is not among theirs
fit-pushed : (tag : OpenTag) → repeats_attribute tag ≡ false → IsFitTag tag
    → IsFitTag (record tag { attributes = tag.attributes ++ attribute tag.last_name tag.last_value ∷ []; last_name = []; last_value = [] })
unfolding repeats_attribute has_no_capital
fit-pushed tag new fit =
    let names : attribute_names (tag.attributes ++ attribute tag.last_name tag.last_value ∷ []) ≡ attribute_names tag.attributes ++ tag.last_name ∷ [] = names-push tag.attributes tag.last_name tag.last_value in
    record {
      begins = fit.begins;
      name = fit.name;
      attributes =
          ap (list_all has_no_capital) names
          ∙ list_all-append has_no_capital (attribute_names tag.attributes) (tag.last_name ∷ [])
          ∙ rw (fit.attributes, fit.last) refl;
      distinct = subst (IsDistinct bytes_eq) (sym names)
          (IsDistinct-push nat_list_eq_equiv (attribute_names tag.attributes) tag.last_name fit.distinct (sym (has_attribute-any tag.attributes tag.last_name) ∙ new));
      last = refl;
    }

fit-dropped : (tag : OpenTag) → IsFitTag tag → IsFitTag (record tag { had_duplicate_attributes = true; last_name = []; last_value = [] })
unfolding has_no_capital
fit-dropped tag fit = record { begins = fit.begins; name = fit.name; attributes = fit.attributes; distinct = fit.distinct; last = refl }

fit-if : (test : Bool) (p q : OpenTag) → (test ≡ true → IsFitTag p) → (test ≡ false → IsFitTag q) → IsFitTag (if test then p else q)
fit-if true p q f g = f refl
fit-if false p q f g = g refl

pub fit-last_attribute : (tag : OpenTag) → IsFitTag tag → IsFitTag (with_last_attribute tag)
unfolding with_last_attribute
fit-last_attribute tag fit =
    let dropped : OpenTag = record tag { had_duplicate_attributes = true; last_name = []; last_value = [] } in
    let pushed : OpenTag = record tag { attributes = tag.attributes ++ attribute tag.last_name tag.last_value ∷ []; last_name = []; last_value = [] } in
    fit-if (not (has_last tag)) tag (if repeats_attribute tag then dropped else pushed) (λ none. fit)
    (λ some. fit-if (repeats_attribute tag) dropped pushed (λ repeated. fit-dropped tag fit) (λ new. fit-pushed tag new fit))

-- a tag that ends is lawful
pub lawful-told : (tag : OpenTag) (self_closing : Bool) → IsFitTag tag → IsLawfulTag (told_tag tag self_closing)
lawful-told tag self_closing fit = record { begins = fit.begins; name = fit.name; attributes = fit.attributes; distinct = fit.distinct }

-- ---- doctypes

pub lawful-empty : IsLawfulDoctype empty_doctype
lawful-empty = tt

pub lawful-quirks : (d : DoctypeOf) → IsLawfulDoctype d → IsLawfulDoctype (with_quirks d)
lawful-quirks d lawful = lawful

pub lawful-name : (d : DoctypeOf) (run : List ℕ) → IsLawfulDoctype d → IsLawfulDoctype (with_doctype_name d run)
lawful-name d run lawful =
    elim d.name as (λ o. IfSome o (λ name. has_no_capital name ≡ true) → IfSome (option_map (λ begun. begun ++ flat_map name_bytes run) o) (λ name. has_no_capital name ≡ true)) [
      | None ↦ λ none. tt
      | Some name ↦ λ some. no_capital-more name run some
    ] lawful

pub lawful-first : (d : DoctypeOf) (c : ℕ) → IsLawfulDoctype (with_first_of_name d c)
lawful-first d c = no_capital-names (c ∷ [])

pub lawful-begun_identifier : (kind : DoctypeIdKind) (d : DoctypeOf) → IsLawfulDoctype d → IsLawfulDoctype (with_begun_identifier kind d)
lawful-begun_identifier Public d lawful = lawful
lawful-begun_identifier System d lawful = lawful

pub lawful-identifier : (kind : DoctypeIdKind) (d : DoctypeOf) (run : List ℕ) → IsLawfulDoctype d → IsLawfulDoctype (with_identifier kind d run)
lawful-identifier Public d run lawful = lawful
lawful-identifier System d run lawful = lawful
