-- A token is refused exactly if it can't be written.
use Rattle.std.proofs.Common.{◌≡◌, ℕ, ◌+◌, Bool, true, false, List, [], ◌∷◌, Some, None, Option, refl, ap, ◌∙◌}
use Rattle.std.specs.Prelude.{◌==◌, ◌&&◌, not, option_map, if◌then◌else◌}
use Rattle.std.specs.List.{list_all}
use Rattle.std.specs.Option.{option_or, is_none}
use Rattle.std.proofs.Math.Bool.{and-true, and-false}
use Rattle.html5ever_interface.specs.Token.{Told, DoctypeOf}
use Rattle.html5ever_interface.specs.Token.Told.{Text, Null, Error, Tag, Comment, Instruction, Doctype, End}
use Rattle.html5reading.specs.Characters.{null}
use Rattle.html5reading.specs.Lawful.{has_no_null}
use Rattle.html5serialize.specs.Doctypes.{is_markup_character, is_name, is_identifier_or_none, is_doctype_with}
use Rattle.html5serialize.specs.Refusals.{null_from, repeat_from, attribute_refusal, attributes_refusal, tag_refusal, named_refusal, doctype_refusal, refusal_of}
use Rattle.html5serialize.specs.Tags.{is_unqualified, is_attribute_name, is_attribute, differs_from, are_distinct}
use Rattle.html5serialize.specs.Tokens.{is_comment_text, can_write}
use Rattle.html5ever_interface.specs.declared.states.RawKind.{RawKind}
use Rattle.html5ever_interface.specs.declared.states.RawKind.TheVariants.{Rcdata, Rawtext, ScriptData, ScriptDataEscaped}
use Rattle.html5serialize.specs.RawRefusals.{mark_refusal, plain_refusal, raw_refusal, text_refusal}
use Rattle.html5serialize.specs.RawTexts.{can_write_raw, has_end, is_plain_text, is_raw_name, may_hide}
use Rattle.html5serialize.specs.declared.error.RawTextError.{RawTextError}
use Rattle.html5serialize.specs.declared.error.RawTextError.TheVariants.{Name, Character, EndTag, Mark}
use Rattle.html5serialize.specs.declared.error.SerializeError.{SerializeError}
use Rattle.html5serialize.specs.declared.error.SerializeError.TheVariants.{NullInText, TagName, QualifiedName, AttributeName, NullInValue, Repeated, CommentText, InstructionContent, NamelessDoctype, DoctypeName, PublicIdentifier, SystemIdentifier}
use Rattle.html5write.specs.Pieces.{is_comment_character, is_tag_name}
use Rattle.markup5ever.specs.Names.{AttributeOf}

none-option_map : {X Y : Type 0} (f : X → Y) (o : Option X) → is_none (option_map f o) ≡ is_none o
none-option_map f None = refl
none-option_map f (Some x) = refl

none-option_or : {X : Type 0} (o other : Option X) → is_none (option_or o other) ≡ (is_none o && is_none other)
none-option_or None other = refl
none-option_or (Some x) other = refl

none-null_from : (at : ℕ) (text : List ℕ) → is_none (null_from at text) ≡ has_no_null text
unfolding null_from has_no_null
none-null_from at [] = refl
none-null_from at (b ∷ text) =
    elim (b == null) as (λ t. is_none (if t then Some at else null_from (at + 1) text) ≡ (not t && has_no_null text)) [
      | true ↦ refl
      | false ↦ none-null_from (at + 1) text
    ]

none-repeat_from : (a : AttributeOf) (index : ℕ) (later : List AttributeOf) → is_none (repeat_from a index later) ≡ list_all (differs_from a) later
unfolding repeat_from
none-repeat_from a index [] = refl
none-repeat_from a index (other ∷ later) =
    elim (differs_from a other) as (λ b. is_none (if b then repeat_from a (index + 1) later else Some index) ≡ (b && list_all (differs_from a) later)) [
      | true ↦ none-repeat_from a (index + 1) later
      | false ↦ refl
    ]

-- of several reasons in turn there is none if no test fails
none-next : (b : Bool) (e : SerializeError) (o : Option SerializeError) → is_none (if not b then Some e else o) ≡ (b && is_none o)
none-next true e o = refl
none-next false e o = refl

none-where : (b : Bool) (e : SerializeError) → is_none (if b then None else Some e) ≡ b
none-where true e = refl
none-where false e = refl

none-attribute : (index : ℕ) (a : AttributeOf) → is_none (attribute_refusal index a) ≡ is_attribute a
unfolding attribute_refusal
none-attribute index a =
    none-next (is_unqualified a.name) (QualifiedName index) _
    ∙ ap (λ b. is_unqualified a.name && b)
    (none-next (is_attribute_name a.name.local) (AttributeName index) _
    ∙ ap (λ b. is_attribute_name a.name.local && b) (none-option_map (λ at. NullInValue index at) (null_from 0 a.value) ∙ none-null_from 0 a.value))

in_other_order : (a l s d : Bool) → (a && (l && (s && d))) ≡ ((a && s) && (l && d))
in_other_order false l s d = refl
in_other_order true true s d = refl
in_other_order true false true d = refl
in_other_order true false false d = refl

none-attributes : (index : ℕ) (attributes : List AttributeOf) → is_none (attributes_refusal index attributes) ≡ (list_all is_attribute attributes && are_distinct attributes)
unfolding attributes_refusal are_distinct
none-attributes index [] = refl
none-attributes index (a ∷ later) =
    none-option_or (attribute_refusal index a) _
    ∙ ap (λ b. is_none (attribute_refusal index a) && b) (none-option_or (option_map Repeated (repeat_from a (index + 1) later)) (attributes_refusal (index + 1) later))
    ∙ rw (none-attribute index a, none-option_map Repeated (repeat_from a (index + 1) later), none-repeat_from a (index + 1) later, none-attributes (index + 1) later)
    (in_other_order (is_attribute a) (list_all (differs_from a) later) (list_all is_attribute later) (are_distinct later))

none-named : (d : DoctypeOf) (name : List ℕ) → is_none (named_refusal d name) ≡ (is_name name && (is_identifier_or_none d.public_id && is_identifier_or_none d.system_id))
unfolding named_refusal
none-named d name =
    none-next (is_name name) DoctypeName _
    ∙ ap (λ b. is_name name && b)
    (none-next (is_identifier_or_none d.public_id) PublicIdentifier _
    ∙ ap (λ b. is_identifier_or_none d.public_id && b) (none-next (is_identifier_or_none d.system_id) SystemIdentifier None ∙ and-true (is_identifier_or_none d.system_id)))

none-doctype : (d : DoctypeOf) (name : Option (List ℕ)) → is_none (doctype_refusal d name) ≡ is_doctype_with d name
unfolding doctype_refusal
none-doctype d None = none-where (d.force_quirks && (is_none d.public_id && is_none d.system_id)) NamelessDoctype
none-doctype d (Some name) = none-named d name

pub none-refusal_of : (token : Told) → is_none (refusal_of token) ≡ can_write token
unfolding refusal_of tag_refusal can_write
none-refusal_of (Text text) = none-option_map NullInText (null_from 0 text) ∙ none-null_from 0 text
none-refusal_of Null = refl
none-refusal_of (Error message) = refl
none-refusal_of (Tag tag) =
    elim (is_tag_name tag.name) as (λ b. is_none (if b then attributes_refusal 0 tag.attributes else Some TagName) ≡ (b && (list_all is_attribute tag.attributes && are_distinct tag.attributes))) [
      | true ↦ none-attributes 0 tag.attributes
      | false ↦ refl
    ]
none-refusal_of (Comment text) = none-where (is_comment_text text) CommentText
none-refusal_of (Instruction content) = none-where (list_all is_markup_character content) InstructionContent
none-refusal_of (Doctype d) = none-doctype d d.name
none-refusal_of End = refl

-- ---- raw text

none-raw : (b : Bool) (e : RawTextError) (o : Option RawTextError) → is_none (if not b then Some e else o) ≡ (b && is_none o)
none-raw true e o = refl
none-raw false e o = refl

none-if : (b : Bool) (e : RawTextError) → is_none (if b then Some e else None) ≡ not b
none-if true e = refl
none-if false e = refl

none-else : (b : Bool) (e : RawTextError) → is_none (if b then None else Some e) ≡ b
none-else true e = refl
none-else false e = refl

none-choice : (b : Bool) (o : Option RawTextError) (e : RawTextError) → is_none (if b then o else Some e) ≡ (b && is_none o)
none-choice true o e = refl
none-choice false o e = refl

none-plain : (name text : List ℕ) → is_none (plain_refusal name text) ≡ is_plain_text name text
unfolding plain_refusal
none-plain name text =
    none-raw (list_all is_comment_character text) Character _
    ∙ ap (λ b. list_all is_comment_character text && b) (none-if (has_end name text) EndTag)

none-text : (kind : RawKind) (name text : List ℕ) → (is_raw_name name && is_none (text_refusal kind name text)) ≡ can_write_raw kind name text
unfolding text_refusal can_write_raw mark_refusal
none-text Rcdata name text = ap (λ b. is_raw_name name && b) (none-else (has_no_null text) Character)
none-text Rawtext name text = ap (λ b. is_raw_name name && b) (none-plain name text)
none-text ScriptData name text =
    ap (λ b. is_raw_name name && b)
    (none-option_or (plain_refusal name text) _
    ∙ rw (none-plain name text) (ap (λ b. is_plain_text name text && b) (none-if (may_hide text) Mark)))
none-text (ScriptDataEscaped kind) name text = and-false (is_raw_name name)

pub none-raw_refusal : (kind : RawKind) (name text : List ℕ) → is_none (raw_refusal kind name text) ≡ can_write_raw kind name text
unfolding raw_refusal
none-raw_refusal kind name text = none-choice (is_raw_name name) (text_refusal kind name text) Name ∙ none-text kind name text
