-- A tag tells no text, so a collector keeps its messages one by one.
use Rattle.std.proofs.Common.{◌≡◌, ℕ, Bool, true, false, List, [], ◌∷◌, ◌++◌, refl, ◌∙◌, ap}
use Rattle.std.specs.Prelude.{None, ◌==◌, ◌&&◌, drop, length, zero, suc, Option, Some, if◌then◌else◌}
use Rattle.std.proofs.lemmas.List.{append_assoc}
use Rattle.html5ever_interface.proofs.Steppings.{stepped-append}
use Rattle.html5ever_interface.specs.Collected.{Collected, none_collected, collected_step, collected_reply, collected_finish}
use Rattle.html5ever_interface.specs.Sink.{Message, stepped, on_line, Means}
use Rattle.html5ever_interface.specs.Token.Told.{End}
use Rattle.html5ever_interface.specs.declared.states.AttrValueKind.TheVariants.{SingleQuoted, DoubleQuoted, Unquoted}
use Rattle.html5ever_interface.specs.declared.states.State.TheVariants as state
use Rattle.html5reading.specs.NormalisedText.{line_after}
use Rattle.html5grammar.specs.Tag.{Value, Part, WrittenTag, spell_value, spell_name, spell_part, spell_parts, opening, place_after, attributes_with, repeated_error, all_attributes, end_place, end_error, end_errors, unclosed, written, spelled, tag_messages, IsTag, spell_run, value_error, found_in_value, body}
use Rattle.html5grammar.specs.Spelled.{spell, spell_silent, spelled_messages}
use Rattle.html5grammar.specs.Tag.Part.{Blank, Solidus, Name, Attribute}
use Rattle.html5grammar.specs.Tag.Value.{InDoubleQuotes, InSingleQuotes, Bare}
use Rattle.html5reading.specs.Start.{Input, OpenTag, Place, Start, Rules}
use Rattle.html5reading.specs.Reading.{reading, messages}
use Rattle.html5grammar.proofs.Tag.Reading.{reading-tag}
use Rattle.html5reading.specs.Start.Place.{InName, BeforeAttribute, InAttributeName, AfterAttributeName, BeforeValue, InValue, AfterQuotedValue, AfterSolidus}
use Rattle.html5reading.specs.Tag.{null_error, unquoted_error, attribute_name_error, place_error, first_error, attributes_error, self_closing_error, end_tag_errors, is_after_solidus}
use Rattle.markup5ever.specs.Names.{AttributeOf}
use Rattle.html5grammar.proofs.Collected.{HasNoText, HasNoText-append, HasNoText-where, TellNoText, TellNoText-append, TellNoText-spell, TellNoText-silent, collected-on_line, collected-spelled_messages}
use Rattle.html5reading.specs.Reference.{Found, reference, number_reference, unended_number, has_digits, no_name, named_reference, is_ended, goes_on, first_or, longest_name}
use Rattle.html5reading.specs.Characters.{number_sign, ampersand, equals_sign}
use Rattle.markup5ever.specs.NamedReferences.{NamedReference, IsTable}
use Rattle.html5ever_interface.specs.declared.states.AttrValueKind.{AttrValueKind}

-- ---- what a tag tells

HasNoText-place : (exact : Bool) (place : Place) (c : ℕ) → HasNoText (place_error exact place c)
unfolding place_error
HasNoText-place exact InName c = tt
HasNoText-place exact BeforeAttribute c = tt
HasNoText-place exact InAttributeName c = tt
HasNoText-place exact AfterAttributeName c = tt
HasNoText-place exact BeforeValue c = tt
HasNoText-place exact (InValue kind) c = tt
HasNoText-place exact AfterQuotedValue c = HasNoText-where _ _
HasNoText-place exact AfterSolidus c = HasNoText-where _ _

HasNoText-first : (exact : Bool) (place : Place) (c : ℕ) → HasNoText (first_error exact place c)
unfolding first_error
HasNoText-first exact InName c = HasNoText-where _ _
HasNoText-first exact BeforeAttribute c = HasNoText-where _ _
HasNoText-first exact InAttributeName c = HasNoText-where _ _
HasNoText-first exact AfterAttributeName c = HasNoText-where _ _
HasNoText-first exact BeforeValue c = HasNoText-where _ _
HasNoText-first exact (InValue kind) c = HasNoText-where _ _
HasNoText-first exact AfterQuotedValue c = HasNoText-where _ _
HasNoText-first exact AfterSolidus c = HasNoText-where _ _

-- the errors of a reference
HasNoText-if : (test : Bool) (a b : Found) → HasNoText a.errors → HasNoText b.errors → HasNoText (if test then a else b).errors
HasNoText-if true a b f g = f
HasNoText-if false a b f g = g

HasNoText-unended : (next : Option ℕ) → HasNoText (unended_number next)
unfolding unended_number
HasNoText-unended None = (refl, tt)
HasNoText-unended (Some c) = HasNoText-where _ _

HasNoText-number : (exact : Bool) (text : List ℕ) (next : Option ℕ) → HasNoText (number_reference exact text next).errors
unfolding number_reference
HasNoText-number exact text next =
    HasNoText-if (has_digits text) _ _ (HasNoText-append (unended_number next) _ (HasNoText-unended next) (HasNoText-where _ _)) (refl, tt)

HasNoText-no_name : (exact : Bool) (held : List ℕ) (next : Option ℕ) → HasNoText (no_name exact held next).errors
unfolding no_name
HasNoText-no_name exact [] next = tt
HasNoText-no_name exact (c ∷ held) None = tt
HasNoText-no_name exact (c ∷ held) (Some d) = HasNoText-where _ _

HasNoText-named : (exact v : Bool) (held : List ℕ) (next : Option ℕ) (entry : Option NamedReference) → HasNoText (named_reference exact v held next entry).errors
unfolding named_reference
HasNoText-named exact v held next None = HasNoText-no_name exact held next
HasNoText-named exact v held next (Some entry) =
    HasNoText-if (is_ended entry.name) _ _ tt (HasNoText-if (v && goes_on (first_or (drop (length entry.name) held) next)) _ _ tt (refl, tt))

HasNoText-reference : (rules : Rules) (v : Bool) (held : List ℕ) (next : Option ℕ) → HasNoText (reference rules v held next).errors
unfolding reference
HasNoText-reference rules v [] next = tt
HasNoText-reference rules v (c ∷ held) next =
    HasNoText-if (c == number_sign) _ _ (HasNoText-number rules.exact held next) (HasNoText-named rules.exact v (c ∷ held) next (longest_name rules.references (c ∷ held)))

HasNoText-in_value : (exact : Bool) (kind : AttrValueKind) (c : ℕ) → HasNoText (value_error exact kind c)
unfolding unquoted_error
HasNoText-in_value exact Unquoted c = HasNoText-where _ _
HasNoText-in_value exact SingleQuoted c = HasNoText-where _ _
HasNoText-in_value exact DoubleQuoted c = HasNoText-where _ _

TellNoText-run : (rules : Rules) (kind : AttrValueKind) (taken : ℕ) (run : List ℕ) → TellNoText (spell_run rules kind taken run)
unfolding spell_run
TellNoText-run rules kind taken [] = tt
TellNoText-run rules kind (suc taken) (c ∷ run) = (tt, TellNoText-run rules kind taken run)
TellNoText-run rules kind zero (c ∷ run) =
    elim (c == ampersand) as (λ b. TellNoText (if b then record { character = c; told = (found_in_value rules kind run).errors } ∷ spell_run rules kind (found_in_value rules kind run).taken run
    else record { character = c; told = value_error rules.exact kind c } ∷ spell_run rules kind zero run)) [
      | true ↦ (HasNoText-reference rules true _ _, TellNoText-run rules kind (found_in_value rules kind run).taken run)
      | false ↦ (HasNoText-in_value rules.exact kind c, TellNoText-run rules kind zero run)
    ]

TellNoText-value : (rules : Rules) (value : Value) → TellNoText (spell_value rules value)
TellNoText-value rules (InDoubleQuotes run) = (tt, TellNoText-append (spell_run rules DoubleQuoted zero run) _ (TellNoText-run rules DoubleQuoted zero run) (tt, tt))
TellNoText-value rules (InSingleQuotes run) = (tt, TellNoText-append (spell_run rules SingleQuoted zero run) _ (TellNoText-run rules SingleQuoted zero run) (tt, tt))
TellNoText-value rules (Bare run) = TellNoText-run rules Unquoted zero run

TellNoText-name : (exact : Bool) (place : Place) (before : List AttributeOf) (first : ℕ) (rest : List ℕ) → TellNoText (spell_name exact place before first rest)
TellNoText-name exact place before first rest = (
  HasNoText-append (place_error exact place first) _ (HasNoText-place exact place first)
      (HasNoText-append (first_error exact place first) _ (HasNoText-first exact place first) (HasNoText-where _ _)),
  TellNoText-spell (attribute_name_error exact) (λ c. HasNoText-where _ _) rest,
)

TellNoText-part : (rules : Rules) (place : Place) (before : List AttributeOf) (part : Part) → TellNoText (spell_part rules place before part)
TellNoText-part rules place before (Blank c) = (HasNoText-place rules.exact place c, tt)
TellNoText-part rules place before Solidus = (HasNoText-place rules.exact place _, tt)
TellNoText-part rules place before (Name first rest) = TellNoText-name rules.exact place before first rest
TellNoText-part rules place before (Attribute first rest space afterwards value) =
    TellNoText-append (spell_name rules.exact place before first rest) _ (TellNoText-name rules.exact place before first rest)
    (TellNoText-append (spell_silent space ++ spell_silent (equals_sign ∷ afterwards)) (spell_value rules value)
    (TellNoText-append (spell_silent space) (spell_silent (equals_sign ∷ afterwards)) (TellNoText-silent space) (TellNoText-silent (equals_sign ∷ afterwards)))
    (TellNoText-value rules value))

TellNoText-parts : (rules : Rules) (place : Place) (before : List AttributeOf) (parts : List Part) → TellNoText (spell_parts rules place before parts)
unfolding spell_parts
TellNoText-parts rules place before [] = tt
TellNoText-parts rules place before (part ∷ parts) =
    TellNoText-append (spell_part rules place before part) _ (TellNoText-part rules place before part)
    (TellNoText-parts rules (place_after place part) (attributes_with rules before part) parts)

HasNoText-end_error : (exact : Bool) (place : Place) → HasNoText (end_error exact place)
HasNoText-end_error exact InName = tt
HasNoText-end_error exact BeforeAttribute = tt
HasNoText-end_error exact InAttributeName = tt
HasNoText-end_error exact AfterAttributeName = tt
HasNoText-end_error exact BeforeValue = (refl, tt)
HasNoText-end_error exact (InValue kind) = tt
HasNoText-end_error exact AfterQuotedValue = tt
HasNoText-end_error exact AfterSolidus = tt

HasNoText-end_tag : (tag : OpenTag) (self_closing : Bool) → HasNoText (end_tag_errors tag self_closing)
unfolding end_tag_errors
HasNoText-end_tag tag self_closing =
    HasNoText-append (attributes_error tag) (self_closing_error tag self_closing) (HasNoText-where _ _) (HasNoText-where _ _)

-- the characters of a tag tell no text, so a collector keeps all their messages
TellNoText-tag : (rules : Rules) (tag : WrittenTag) → TellNoText (spelled rules tag)
unfolding spelled
TellNoText-tag rules tag =
    TellNoText-append (body rules tag) _
    (TellNoText-append (spell_silent (opening tag.kind)) _ (TellNoText-silent (opening tag.kind))
    (TellNoText-append (spell (null_error rules.exact state.TagName) (tag.first ∷ tag.rest)) _ (TellNoText-spell _ (λ c. HasNoText-where _ _) (tag.first ∷ tag.rest))
    (TellNoText-parts rules InName [] tag.parts))) (
      HasNoText-append (end_errors rules tag) _
          (HasNoText-append (end_error rules.exact (end_place tag)) _ (HasNoText-end_error rules.exact (end_place tag))
          (HasNoText-append (repeated_error (all_attributes rules tag)) _ (HasNoText-where _ _) (HasNoText-end_tag (unclosed rules tag) (is_after_solidus (end_place tag)))))
          (refl, tt),
      tt,
    )

-- ---- a collector keeps it

-- a collector that is sent one tag holds its messages
collected-tag : (rules : Rules) (input : Input) (c : Collected) (tag : WrittenTag)
    → stepped collected_step c (tag_messages rules input tag) ≡ record c { messages = c.messages ++ tag_messages rules input tag }
unfolding tag_messages
collected-tag rules input c tag =
    let M : List Message = spelled_messages rules.exact input [] (spelled rules tag) in
    let N : List Message = on_line (line_after input (written tag)) (End ∷ []) in
    stepped-append collected_step c M N
    ∙ rw (collected-spelled_messages rules.exact input [] c (spelled rules tag) (TellNoText-tag rules tag))
    (collected-on_line (record c { messages = c.messages ++ M }) (line_after input (written tag)) (End ∷ []) (refl, tt)
    ∙ rw (append_assoc c.messages M N) refl)

-- what a collector makes of what it is sent
abbrev collecting : (H : Type 0) → Means Collected Collected H
collecting H = record {
  state = λ c. c;
  step = collected_step;
  reply = collected_reply;
  foreign = λ c. c.foreign;
  finish = collected_finish;
  faulted = λ c token line. c;
  end_faulted = λ c. c;
}

-- what a collector holds after a text that is one tag
pub collects-tag : (H : Type 0) (rules : Rules) (K : Start) (foreign : Bool) (X : List ℕ) (tag : WrittenTag) → IsTable rules.references → IsTag K X tag
    → collected_finish (stepped collected_step (none_collected foreign) (messages (reading collected_step (collected_reply {H = H}) (λ (c : Collected). c.foreign) rules K (none_collected foreign) X)))
    ≡ record { messages = tag_messages rules K.input tag; finished = true; foreign = foreign }
collects-tag H rules K foreign X tag table one =
    ap (λ M. collected_finish (stepped collected_step (none_collected foreign) M))
    (reading-tag (collecting H) rules K (none_collected foreign) X tag (λ t line. refl) table one)
    ∙ ap collected_finish (collected-tag rules K.input (none_collected foreign) tag)
