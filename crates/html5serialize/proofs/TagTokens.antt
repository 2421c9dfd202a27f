-- What any tag tells except for errors: its token.
use Rattle.std.proofs.Common.{◌≡◌, ℕ, zero, suc, Bool, true, false, List, [], ◌∷◌, ◌++◌, refl, ◌∙◌}
use Rattle.std.specs.Prelude.{◌==◌, if◌then◌else◌}
use Rattle.std.proofs.lemmas.List.{append-nil}
use Rattle.html5ever_interface.specs.Token.Told.{Tag}
use Rattle.html5ever_interface.specs.declared.states.AttrValueKind.{AttrValueKind}
use Rattle.html5ever_interface.specs.declared.states.AttrValueKind.TheVariants.{Unquoted, SingleQuoted, DoubleQuoted}
use Rattle.html5ever_interface.specs.declared.states.State.TheVariants as state
use Rattle.html5reading.specs.Characters.{ampersand, quotation_mark, apostrophe, equals_sign, solidus, greater_than}
use Rattle.html5reading.specs.Start.{Input, OpenTag, Place, Rules}
use Rattle.html5reading.specs.Start.Place.{InName, BeforeAttribute, InAttributeName, AfterAttributeName, BeforeValue, InValue, AfterQuotedValue, AfterSolidus}
use Rattle.html5reading.specs.Tag.{null_error, unquoted_error, attribute_name_error, place_error, first_error, end_tag_errors, attributes_error, is_after_solidus, quote_of}
use Rattle.html5grammar.specs.Spelled.{Spelled, spell, spell_silent, spelled_messages}
use Rattle.html5grammar.specs.Tag.{Value, Part, WrittenTag, opening, place_after, attributes_with, value_error, spell_run, spell_value, repeated_error, spell_name, spell_part, spell_parts, found_in_value, held_in, deciding_in, all_attributes, end_place, unclosed, tag_told, end_error, end_errors, body, spelled}
use Rattle.html5grammar.specs.Tag.Part.{Blank, Solidus, Name, Attribute}
use Rattle.html5grammar.specs.Tag.Value.{InDoubleQuotes, InSingleQuotes, Bare}
use Rattle.markup5ever.specs.Names.{AttributeOf}
use Rattle.html5write.specs.Told.{proper}
use Rattle.html5serialize.proofs.Errors.{AreErrors, TellErrors, errors-append, errors-before, errors-where, errors-null, errors-reference, tell-append, tell-spell, tell-silent, proper_tokens, proper_cells, proper-spelled, cells-before}

-- ---- the errors of single characters

pub errors-value : (exact : Bool) (kind : AttrValueKind) (c : ℕ) → AreErrors (value_error exact kind c)
unfolding unquoted_error
errors-value exact Unquoted c = errors-where _ _
errors-value exact SingleQuoted c = errors-where _ _
errors-value exact DoubleQuoted c = errors-where _ _

errors-place : (exact : Bool) (place : Place) (c : ℕ) → AreErrors (place_error exact place c)
unfolding place_error
errors-place exact AfterSolidus c = errors-where _ _
errors-place exact AfterQuotedValue c = errors-where _ _
errors-place exact InName c = refl
errors-place exact BeforeAttribute c = refl
errors-place exact InAttributeName c = refl
errors-place exact AfterAttributeName c = refl
errors-place exact BeforeValue c = refl
errors-place exact (InValue kind) c = refl

errors-first : (exact : Bool) (place : Place) (c : ℕ) → AreErrors (first_error exact place c)
unfolding first_error
errors-first exact AfterAttributeName c = errors-where _ _
errors-first exact AfterSolidus c = errors-where _ _
errors-first exact AfterQuotedValue c = errors-where _ _
errors-first exact InName c = errors-where _ _
errors-first exact BeforeAttribute c = errors-where _ _
errors-first exact InAttributeName c = errors-where _ _
errors-first exact BeforeValue c = errors-where _ _
errors-first exact (InValue kind) c = errors-where _ _

errors-repeated : (attributes : List AttributeOf) → AreErrors (repeated_error attributes)
errors-repeated attributes = errors-where _ _

errors-end_tag : (tag : OpenTag) (self_closing : Bool) → AreErrors (end_tag_errors tag self_closing)
unfolding end_tag_errors
errors-end_tag tag self_closing = errors-append (attributes_error tag) _ (errors-where _ _) (errors-where _ _)

errors-end : (exact : Bool) (place : Place) → AreErrors (end_error exact place)
errors-end exact BeforeValue = refl
errors-end exact InName = refl
errors-end exact BeforeAttribute = refl
errors-end exact InAttributeName = refl
errors-end exact AfterAttributeName = refl
errors-end exact (InValue kind) = refl
errors-end exact AfterQuotedValue = refl
errors-end exact AfterSolidus = refl

module _ (rules : Rules) where
  -- ---- values and attributes

  tell-run : (kind : AttrValueKind) (taken : ℕ) (run : List ℕ) → TellErrors (spell_run rules kind taken run)
  unfolding spell_run
  tell-run kind taken [] = tt
  tell-run kind (suc taken) (c ∷ run) = (refl, tell-run kind taken run)
  tell-run kind zero (c ∷ run) =
      elim (c == ampersand) as (λ b. TellErrors (if b then record { character = c; told = (found_in_value rules kind run).errors } ∷ spell_run rules kind (found_in_value rules kind run).taken run
      else record { character = c; told = value_error rules.exact kind c } ∷ spell_run rules kind zero run)) [
        | true ↦ (errors-reference rules true (held_in rules.references (run ++ quote_of kind ∷ [])) (deciding_in rules.references (run ++ quote_of kind ∷ [])), tell-run kind (found_in_value rules kind run).taken run)
        | false ↦ (errors-value rules.exact kind c, tell-run kind zero run)
      ]

  tell-value : (value : Value) → TellErrors (spell_value rules value)
  tell-value (InDoubleQuotes run) =
      tell-append (spell_silent (quotation_mark ∷ [])) _ (tell-silent (quotation_mark ∷ []))
      (tell-append (spell_run rules DoubleQuoted zero run) _ (tell-run DoubleQuoted zero run) (tell-silent (quotation_mark ∷ [])))
  tell-value (InSingleQuotes run) =
      tell-append (spell_silent (apostrophe ∷ [])) _ (tell-silent (apostrophe ∷ []))
      (tell-append (spell_run rules SingleQuoted zero run) _ (tell-run SingleQuoted zero run) (tell-silent (apostrophe ∷ [])))
  tell-value (Bare run) = tell-run Unquoted zero run

  pub tell-attribute_name : (place : Place) (before : List AttributeOf) (first : ℕ) (rest : List ℕ) → TellErrors (spell_name rules.exact place before first rest)
  tell-attribute_name place before first rest = (
    errors-append (place_error rules.exact place first) _ (errors-place rules.exact place first)
        (errors-append (first_error rules.exact place first) _ (errors-first rules.exact place first) (errors-repeated before)),
    tell-spell (attribute_name_error rules.exact) (λ c. errors-where _ _) rest,
  )

  tell-part : (place : Place) (before : List AttributeOf) (part : Part) → TellErrors (spell_part rules place before part)
  tell-part place before (Blank c) = (errors-place rules.exact place c, tt)
  tell-part place before Solidus = (errors-place rules.exact place solidus, tt)
  tell-part place before (Name first rest) = tell-attribute_name place before first rest
  tell-part place before (Attribute first rest space afterwards value) =
      tell-append (spell_name rules.exact place before first rest) _ (tell-attribute_name place before first rest)
      (tell-append (spell_silent space ++ spell_silent (equals_sign ∷ afterwards)) _
      (tell-append (spell_silent space) _ (tell-silent space) (tell-silent (equals_sign ∷ afterwards)))
      (tell-value value))

  tell-parts : (place : Place) (before : List AttributeOf) (parts : List Part) → TellErrors (spell_parts rules place before parts)
  unfolding spell_parts
  tell-parts place before [] = tt
  tell-parts place before (part ∷ parts) =
      tell-append (spell_part rules place before part) _ (tell-part place before part)
      (tell-parts (place_after place part) (attributes_with rules before part) parts)

  -- ---- tags

  pub tell-body : (tag : WrittenTag) → TellErrors (body rules tag)
  tell-body tag =
      tell-append (spell_silent (opening tag.kind)) _ (tell-silent (opening tag.kind))
      (tell-append (spell (null_error rules.exact state.TagName) (tag.first ∷ tag.rest)) _
      (tell-spell (null_error rules.exact state.TagName) (λ c. errors-null rules.exact state.TagName c) (tag.first ∷ tag.rest))
      (tell-parts InName [] tag.parts))

  errors-close : (tag : WrittenTag) → AreErrors (end_errors rules tag)
  errors-close tag =
      errors-append (end_error rules.exact (end_place tag)) _ (errors-end rules.exact (end_place tag))
      (errors-append (repeated_error (all_attributes rules tag)) _ (errors-repeated (all_attributes rules tag))
      (errors-end_tag (unclosed rules tag) (is_after_solidus (end_place tag))))

  -- the same of its characters
  pub cells-tag : (tag : WrittenTag) → proper_cells (spelled rules tag) ≡ Tag (tag_told rules tag) ∷ []
  unfolding spelled
  cells-tag tag =
      let last : List Spelled = record { character = greater_than; told = end_errors rules tag ++ Tag (tag_told rules tag) ∷ [] } ∷ [] in
      cells-before (body rules tag) last (tell-body tag)
      ∙ append-nil (proper_tokens (end_errors rules tag ++ Tag (tag_told rules tag) ∷ []))
      ∙ errors-before (end_errors rules tag) (Tag (tag_told rules tag) ∷ []) (errors-close tag)

  pub proper-tag : (input : Input) (tag : WrittenTag) → proper (spelled_messages rules.exact input [] (spelled rules tag)) ≡ Tag (tag_told rules tag) ∷ []
  proper-tag input tag = proper-spelled rules.exact input [] (spelled rules tag) ∙ cells-tag tag
