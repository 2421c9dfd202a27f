-- A tag with references in its values tells what it spells.
use Rattle.std.proofs.Common.{◌≡◌, ℕ, zero, Bool, true, false, List, [], ◌∷◌, ◌++◌, refl, ap, sym, ◌∙◌, subst}
use Rattle.std.specs.Prelude.{◌==◌, ◌||◌, not, All, IsTrue, flat_map}
use Rattle.std.specs.List.{list_all}
use Rattle.std.proofs.lemmas.Bool.{false≢true, and_parts, not-true}
use Rattle.std.proofs.lemmas.List.{append_assoc}
use Rattle.html5ever_interface.specs.Sink.{Means, Message, stepped, on_line}
use Rattle.html5ever_interface.specs.Token.{Told, TagOf}
use Rattle.html5ever_interface.specs.Token.Told.{Tag}
use Rattle.html5ever_interface.specs.declared.interface.token.TagKind.{TagKind}
use Rattle.html5ever_interface.specs.declared.states.AttrValueKind.{AttrValueKind}
use Rattle.html5ever_interface.specs.declared.states.AttrValueKind.TheVariants.{Unquoted, SingleQuoted, DoubleQuoted}
use Rattle.html5ever_interface.specs.declared.states.State.TheVariants as state
use Rattle.html5grammar.specs.Anywhere.{TellsByItself, last_reply, start_after_tag}
use Rattle.html5reading.specs.Characters.{quotation_mark, apostrophe, solidus, equals_sign, greater_than, is_letter, is_white_space}
use Rattle.html5reading.specs.ErrorText.{bad_character_error}
use Rattle.html5reading.specs.NormalisedText.{normalised, line_after}
use Rattle.html5grammar.specs.Tag.{Value, Part, WrittenTag, spell_name, value_text, part_text, opening, written, place_after, place_after_value, place_after_parts, takes_blank, is_attribute_name, name_shown, repeated_error, end_error, end_place, needs_stop, decoded, is_in_value, is_value, shown_run, value_shown, spell_run, spell_value, can_stand, can_follow, is_written, attributes_with, spell_part, spell_parts, attributes_with_parts, all_attributes, tag_told, end_errors, body, spelled, IsTag}
use Rattle.html5grammar.specs.Spelled.{Spelled, spell, spell_silent, spelled_messages}
use Rattle.html5grammar.specs.Tag.Part.{Blank, Solidus, Name, Attribute}
use Rattle.html5grammar.specs.Tag.Value.{InDoubleQuotes, InSingleQuotes, Bare}
use Rattle.html5reading.specs.Reading.{last_after, open_after_reply}
use Rattle.html5reading.specs.Reading.Here.{Tells, TellsTag}
use Rattle.html5reading.specs.Slice.{silent}
use Rattle.html5reading.specs.Start.{Input, Start, OpenTag, Place, Open, Rules, begun, is_undecided_open}
use Rattle.html5reading.specs.Start.Mode.{Data}
use Rattle.html5reading.specs.Start.Place.{InName, BeforeAttribute, InAttributeName, AfterAttributeName, BeforeValue, InValue, AfterQuotedValue, AfterSolidus}
use Rattle.html5reading.specs.Start.Open.{Between, InTag}
use Rattle.html5reading.specs.Tag.{in_tag_name, in_quoted, null_error, attribute_name_error, with_name, with_last_attribute, told_tag, end_tag_errors, is_after_solidus}
use Rattle.html5grammar.proofs.ByItself.{trace-by_itself}
use Rattle.html5grammar.proofs.LastReply.{messages-cell, trace-cell, last_reply-append}
use Rattle.html5grammar.proofs.Leading.{Leads, leads-goes, spelled_messages-append}
use Rattle.html5reading.specs.Machine.{step_at, tag_step, before_value_step, quoted_step}
use Rattle.html5grammar.proofs.Tag.Attributes.{Holds, Holds-none, Holds-attribute, name-some, goes-equals, goes-name_of_attribute, with_attribute, can_end-parts}
use Rattle.html5grammar.proofs.Goes.{characters, characters-spell, characters-two, Goes}
use Rattle.html5grammar.proofs.Tag.Steps.{can_end, goes-name, step-blank, step-solidus, step-end, goes-opening}
use Rattle.html5reading.proofs.Slices.{with_name-cons, with_value-nil}
use Rattle.html5reading.proofs.Traces.{trace, with_messages, brought-step}
use Rattle.html5grammar.proofs.Tag.Values.{Passes, passes-leads, passes-one, passes-append, passes-value_run, characters-run, quote-stop, white-stop, both-none}
use Rattle.html5grammar.proofs.Tag.Stops.{IsStop}
use Rattle.markup5ever.specs.NamedReferences.{IsTable, is_plain_name}
use Rattle.markup5ever.specs.Names.{AttributeOf}

-- ---- the text after a value without quotes

-- the text begins with a character that ends each reference
pub record Stops (text : List ℕ) : Type 0 where
  pub c : ℕ
  pub more : List ℕ
  pub parts : text ≡ c ∷ more
  pub stop : IsStop c

-- parts after a value without quotes begin with a character that ends the value
pub stops-after : (place : Place) (parts : List Part) (rest : List ℕ) → can_follow place parts ≡ true → (needs_stop (place_after_parts place parts) ≡ true → Stops rest) → needs_stop place ≡ true → Stops (flat_map part_text parts ++ rest)
unfolding can_follow place_after_parts
stops-after (InValue Unquoted) [] rest h last needs = last needs
stops-after (InValue Unquoted) (Blank c ∷ parts) rest h last needs =
    record { c = c; more = flat_map part_text parts ++ rest; parts = refl; stop = white-stop c (and_parts (is_white_space c) (can_follow BeforeAttribute parts) h).0 }
stops-after (InValue Unquoted) (Solidus ∷ parts) rest h last needs = absurd (false≢true h)
stops-after (InValue Unquoted) (Name first name ∷ parts) rest h last needs = absurd (false≢true h)
stops-after (InValue Unquoted) (Attribute first name before afterwards value ∷ parts) rest h last needs = absurd (false≢true h)
stops-after (InValue SingleQuoted) parts rest h last needs = absurd (false≢true needs)
stops-after (InValue DoubleQuoted) parts rest h last needs = absurd (false≢true needs)
stops-after InName parts rest h last needs = absurd (false≢true needs)
stops-after BeforeAttribute parts rest h last needs = absurd (false≢true needs)
stops-after InAttributeName parts rest h last needs = absurd (false≢true needs)
stops-after AfterAttributeName parts rest h last needs = absurd (false≢true needs)
stops-after BeforeValue parts rest h last needs = absurd (false≢true needs)
stops-after AfterQuotedValue parts rest h last needs = absurd (false≢true needs)
stops-after AfterSolidus parts rest h last needs = absurd (false≢true needs)

module _ {X S H : Type 0} (means : Means X S H) (rules : Rules) where
  -- ---- the characters that are spelled are the text

  characters-value : (value : Value) → characters (spell_value rules value) ≡ value_text value
  characters-value (InDoubleQuotes run) =
      ap (λ l. quotation_mark ∷ l) (characters-two (spell_run rules DoubleQuoted zero run) (spell_silent (quotation_mark ∷ [])) run (quotation_mark ∷ []) (characters-run means rules DoubleQuoted zero run) refl)
  characters-value (InSingleQuotes run) =
      ap (λ l. apostrophe ∷ l) (characters-two (spell_run rules SingleQuoted zero run) (spell_silent (apostrophe ∷ [])) run (apostrophe ∷ []) (characters-run means rules SingleQuoted zero run) refl)
  characters-value (Bare run) = characters-run means rules Unquoted zero run

  -- the characters that are spelled of a part are its text
  characters-part : (place : Place) (before : List AttributeOf) (part : Part) → characters (spell_part rules place before part) ≡ part_text part
  characters-part place before (Blank c) = refl
  characters-part place before Solidus = refl
  characters-part place before (Name first rest) = ap (λ l. first ∷ l) (characters-spell (attribute_name_error rules.exact) rest)
  characters-part place before (Attribute first rest space afterwards value) =
      ap (λ l. first ∷ l)
      (characters-two (spell (attribute_name_error rules.exact) rest) _ rest _ (characters-spell (attribute_name_error rules.exact) rest)
      (characters-two (spell_silent space ++ spell_silent (equals_sign ∷ afterwards)) (spell_value rules value) (space ++ (equals_sign ∷ afterwards)) (value_text value)
      (characters-two (spell_silent space) (spell_silent (equals_sign ∷ afterwards)) space (equals_sign ∷ afterwards) (characters-spell silent space) (characters-spell silent (equals_sign ∷ afterwards)))
      (characters-value value)
      ∙ append_assoc space (equals_sign ∷ afterwards) (value_text value)))

  pub characters-parts : (place : Place) (before : List AttributeOf) (parts : List Part) → characters (spell_parts rules place before parts) ≡ flat_map part_text parts
  unfolding spell_parts
  characters-parts place before [] = refl
  characters-parts place before (part ∷ parts) =
      characters-two (spell_part rules place before part) _ (part_text part) _ (characters-part place before part)
      (characters-parts (place_after place part) (attributes_with rules before part) parts)

  -- ---- values

  pub passes-goes : (a b : Open) (cells : List Spelled) (rest : List ℕ) → is_undecided_open b ≡ false → Goes rules.exact a cells b → Passes means rules a cells b rest
  passes-goes a b cells rest decided goes = passes-leads means rules a b cells rest (leads-goes rules a b cells decided goes)

  -- a place where c does the same
  pub trace-same : (s : S) (line : ℕ) (last : List ℕ) (a b : Open) (c : ℕ) (rest : List ℕ) → is_undecided_open a ≡ false → is_undecided_open b ≡ false → step_at rules.exact a c ≡ step_at rules.exact b c
      → trace means.step means.reply means.foreign rules s line last a (c ∷ rest) ≡ trace means.step means.reply means.foreign rules s line last b (c ∷ rest)
  unfolding trace
  trace-same s line last a b c rest f g e = rw (brought-step rules (means.foreign s) a c f, brought-step rules (means.foreign s) b c g, e) refl

  abbrev pub with_shown : OpenTag → Value → OpenTag
  with_shown tag value = record tag { last_value = tag.last_value ++ value_shown rules value }

  -- the walk reads a value in quotes as its spelled characters say
  passes-quoted : (kind : AttrValueKind) (q : ℕ) (tag : OpenTag) (run rest : List ℕ) → All (λ entry. IsTrue (is_plain_name entry.name)) rules.references → IsStop q → list_all (is_in_value kind) run ≡ true
      → step_at rules.exact (InTag BeforeValue tag) q ≡ Tells [] (InTag (InValue kind) tag)
      → ((t : OpenTag) → step_at rules.exact (InTag (InValue kind) t) q ≡ Tells [] (InTag AfterQuotedValue t))
      → Passes means rules (InTag BeforeValue tag) (spell_silent (q ∷ []) ++ (spell_run rules kind zero run ++ spell_silent (q ∷ []))) (InTag AfterQuotedValue (record tag { last_value = tag.last_value ++ shown_run rules kind run })) rest
  passes-quoted kind q tag run rest plain stop all opens closes =
      let later : OpenTag = record tag { last_value = tag.last_value ++ shown_run rules kind run } in
      passes-append means rules (InTag BeforeValue tag) (InTag (InValue kind) tag) (InTag AfterQuotedValue later) (spell_silent (q ∷ [])) (spell_run rules kind zero run ++ spell_silent (q ∷ [])) rest
      (passes-one means rules (InTag BeforeValue tag) (InTag (InValue kind) tag) q [] _ refl opens)
      (passes-append means rules (InTag (InValue kind) tag) (InTag (InValue kind) later) (InTag AfterQuotedValue later) (spell_run rules kind zero run) (spell_silent (q ∷ [])) rest
      (passes-value_run means rules kind tag run q rest plain stop all)
      (passes-one means rules (InTag (InValue kind) later) (InTag AfterQuotedValue later) q [] rest refl (closes later)))

  pub bare-same : (tag : OpenTag) (c : ℕ) → (c == quotation_mark) ≡ false → (c == apostrophe) ≡ false → is_in_value Unquoted c ≡ true
      → step_at rules.exact (InTag BeforeValue tag) c ≡ step_at rules.exact (InTag (InValue Unquoted) tag) c
  unfolding step_at tag_step before_value_step is_in_value
  bare-same tag c no_double no_single h =
      let p = both-none (is_white_space c) (c == greater_than) (not-true (is_white_space c || (c == greater_than)) h) in
      rw (p.0, no_double, no_single, p.1) refl

  -- the walk reads a value as its spelled characters say
  passes-value : (tag : OpenTag) (value : Value) (rest : List ℕ) → All (λ entry. IsTrue (is_plain_name entry.name)) rules.references → is_value value ≡ true → (needs_stop (place_after_value value) ≡ true → Stops rest)
      → Passes means rules (InTag BeforeValue tag) (spell_value rules value) (InTag (place_after_value value) (with_shown tag value)) rest
  unfolding step_at tag_step before_value_step quoted_step in_quoted is_white_space spell_run decoded Leads
  passes-value tag (InDoubleQuotes run) rest plain all stops = passes-quoted DoubleQuoted quotation_mark tag run rest plain (quote-stop DoubleQuoted) all refl (λ t. refl)
  passes-value tag (InSingleQuotes run) rest plain all stops = passes-quoted SingleQuoted apostrophe tag run rest plain (quote-stop SingleQuoted) all refl (λ t. refl)
  passes-value tag (Bare []) rest plain all stops =
      passes-leads means rules (InTag BeforeValue tag) (InTag BeforeValue (with_shown tag (Bare []))) [] rest (ap (InTag BeforeValue) (sym (with_value-nil tag)))
  passes-value tag (Bare (c ∷ run)) rest plain all stops =
      let p = and_parts (not (c == quotation_mark)) _ all in
      let q = and_parts (not (c == apostrophe)) _ p.1 in
      let r = and_parts (is_in_value Unquoted c) (list_all (is_in_value Unquoted) run) q.1 in
      let w : Stops rest = stops refl in
      subst (λ l. Passes means rules (InTag BeforeValue tag) (spell_run rules Unquoted zero (c ∷ run)) (InTag (InValue Unquoted) (with_shown tag (Bare (c ∷ run)))) l) (sym w.parts)
      (λ input before s last.
      ap (λ l. trace means.step means.reply means.foreign rules s (line_after input before) last (InTag BeforeValue tag) (l ++ w.c ∷ w.more)) (characters-run means rules Unquoted zero (c ∷ run))
      ∙ trace-same s (line_after input before) last (InTag BeforeValue tag) (InTag (InValue Unquoted) tag) c (run ++ w.c ∷ w.more) refl refl (bare-same tag c (not-true (c == quotation_mark) p.0) (not-true (c == apostrophe) q.0) r.0)
      ∙ ap (λ l. trace means.step means.reply means.foreign rules s (line_after input before) last (InTag (InValue Unquoted) tag) (l ++ w.c ∷ w.more)) (sym (characters-run means rules Unquoted zero (c ∷ run)))
      ∙ passes-value_run means rules Unquoted tag (c ∷ run) w.c w.more plain w.stop q.1 input before s last)

  -- ---- parts

  module _ (kind : TagKind) (name : List ℕ) where
    -- what parts lead to, before this text
    pub record Led (place : Place) (tag : OpenTag) (cells : List Spelled) (later : Place) (attributes : List AttributeOf) (rest : List ℕ) : Type 0 where
      pub afterwards : OpenTag
      pub passes : Passes means rules (InTag place tag) cells (InTag later afterwards) rest
      pub holds : Holds kind name attributes afterwards

    -- the walk reads a part as its spelled characters say, and puts its attribute to the tag
    passes-part : (place : Place) (before : List AttributeOf) (tag : OpenTag) (part : Part) (rest : List ℕ) → All (λ entry. IsTrue (is_plain_name entry.name)) rules.references → Holds kind name before tag → can_stand place part ≡ true
        → (needs_stop (place_after place part) ≡ true → Stops rest)
        → Led place tag (spell_part rules place before part) (place_after place part) (attributes_with rules before part) rest
    passes-part place before tag (Blank c) rest plain holds h stops =
        let p = and_parts (takes_blank place) (is_white_space c) h in
        record { afterwards = tag; passes = passes-one means rules _ _ c _ rest refl (step-blank rules.exact place tag c p.0 p.1); holds = holds }
    passes-part place before tag Solidus rest plain holds h stops =
        record { afterwards = tag; passes = passes-one means rules _ _ solidus _ rest refl (step-solidus rules.exact place tag h); holds = holds }
    passes-part place before tag (Name first name_rest) rest plain holds h stops = record {
      afterwards = with_attribute kind name before (name_shown first name_rest) [];
      passes = passes-goes _ _ _ rest refl (goes-name_of_attribute rules.exact kind name place before tag first name_rest holds h);
      holds = Holds-attribute kind name before (name_shown first name_rest) [] (name-some first name_rest);
    }
    passes-part place before tag (Attribute first name_rest space afterwards value) rest plain holds h stops =
        let p = and_parts (is_attribute_name place first name_rest) _ h in
        let q = and_parts (list_all is_white_space space) _ p.1 in
        let r = and_parts (list_all is_white_space afterwards) (is_value value) q.1 in
        let named : OpenTag = with_attribute kind name before (name_shown first name_rest) [] in
        let valued : OpenTag = with_attribute kind name before (name_shown first name_rest) (value_shown rules value) in
        record {
          afterwards = valued;
          passes =
              passes-append means rules (InTag place tag) (InTag InAttributeName named) (InTag (place_after_value value) valued) (spell_name rules.exact place before first name_rest) _ rest
              (passes-goes _ _ _ _ refl (goes-name_of_attribute rules.exact kind name place before tag first name_rest holds p.0))
              (passes-append means rules (InTag InAttributeName named) (InTag BeforeValue named) (InTag (place_after_value value) valued) (spell_silent space ++ spell_silent (equals_sign ∷ afterwards)) (spell_value rules value) rest
              (passes-goes _ _ _ _ refl (goes-equals rules.exact named space afterwards q.0 r.0))
              (passes-value named value rest plain r.1 stops));
          holds = Holds-attribute kind name before (name_shown first name_rest) (value_shown rules value) (name-some first name_rest);
        }

    -- the same for parts, one after another
    pub passes-parts : (place : Place) (before : List AttributeOf) (tag : OpenTag) (parts : List Part) (rest : List ℕ) → All (λ entry. IsTrue (is_plain_name entry.name)) rules.references → Holds kind name before tag → can_follow place parts ≡ true → (needs_stop (place_after_parts place parts) ≡ true → Stops rest)
        → Led place tag (spell_parts rules place before parts) (place_after_parts place parts) (attributes_with_parts rules before parts) rest
    unfolding spell_parts place_after_parts attributes_with_parts can_follow Leads
    passes-parts place before tag [] rest plain holds h last = record { afterwards = tag; passes = passes-leads means rules (InTag place tag) (InTag place tag) [] rest refl; holds = holds }
    passes-parts place before tag (part ∷ parts) rest plain holds h last =
        let p = and_parts (can_stand place part) (can_follow (place_after place part) parts) h in
        let later : List Spelled = spell_parts rules (place_after place part) (attributes_with rules before part) parts in
        let text : characters later ≡ flat_map part_text parts = characters-parts (place_after place part) (attributes_with rules before part) parts in
        let one = passes-part place before tag part (characters later ++ rest) plain holds p.0
        (λ needs. subst (λ l. Stops (l ++ rest)) (sym text) (stops-after (place_after place part) parts rest p.1 last needs)) in
        let more = passes-parts (place_after place part) (attributes_with rules before part) one.afterwards parts rest plain one.holds p.1 last in
        record {
          afterwards = more.afterwards;
          passes = passes-append means rules (InTag place tag) (InTag (place_after place part) one.afterwards) _ (spell_part rules place before part) later rest one.passes more.passes;
          holds = more.holds;
        }

  -- ---- the tag

  pub characters-body : (tag : WrittenTag) → characters (body rules tag) ++ greater_than ∷ [] ≡ written tag
  unfolding written
  characters-body tag =
      ap (λ l. l ++ greater_than ∷ [])
      (characters-two (spell_silent (opening tag.kind)) _ (opening tag.kind) _ (characters-spell silent (opening tag.kind))
      (characters-two (spell (null_error rules.exact state.TagName) (tag.first ∷ tag.rest)) _ (tag.first ∷ tag.rest) _ (characters-spell (null_error rules.exact state.TagName) (tag.first ∷ tag.rest))
      (characters-parts InName [] tag.parts)))

  -- the opening and the name of a tag
  abbrev pub name_cells : WrittenTag → List Spelled
  name_cells tag = spell_silent (opening tag.kind) ++ spell (null_error rules.exact state.TagName) (tag.first ∷ tag.rest)

  abbrev pub named_tag : WrittenTag → OpenTag
  named_tag tag = with_name (begun tag.kind) (tag.first ∷ tag.rest)

  -- when nothing is open they are read as that
  pub passes-name : (tag : WrittenTag) (rest : List ℕ) → is_letter tag.first ≡ true → list_all in_tag_name tag.rest ≡ true
      → Passes means rules (Between Data) (name_cells tag) (InTag InName (named_tag tag)) rest
  passes-name tag rest letter all =
      let begins : OpenTag = with_name (begun tag.kind) (tag.first ∷ []) in
      let more : List Spelled = spell (null_error rules.exact state.TagName) tag.rest in
      passes-goes (Between Data) (InTag InName (named_tag tag)) (name_cells tag) rest refl
      (goes-opening rules.exact tag.kind more (InTag InName (named_tag tag)) tag.first letter
      (subst (λ t. Goes rules.exact (InTag InName begins) more (InTag InName t)) (sym (with_name-cons (begun tag.kind) tag.first tag.rest)) (goes-name rules.exact begins tag.rest all)))

  -- a tag up to its `>`, and what that tells
  record ReadsTag (opened : Open) (tag : WrittenTag) : Type 0 where
    afterwards : Open
    passes : Passes means rules opened (body rules tag) afterwards (greater_than ∷ [])
    ends : step_at rules.exact afterwards greater_than ≡ TellsTag (end_errors rules tag) (tag_told rules tag)

  pub ends-tag : (tag : WrittenTag) (afterwards : OpenTag) → can_end (end_place tag) ≡ true
      → Holds tag.kind (name_shown tag.first tag.rest) (all_attributes rules tag) afterwards
      → step_at rules.exact (InTag (end_place tag) afterwards) greater_than ≡ TellsTag (end_errors rules tag) (tag_told rules tag)
  ends-tag tag afterwards ends holds =
      let place : Place = end_place tag in
      let closes : Bool = is_after_solidus place in
      step-end rules.exact place afterwards ends
      ∙ ap (λ errors. TellsTag (end_error rules.exact place ++ (errors ++ end_tag_errors (with_last_attribute afterwards) closes)) (told_tag (with_last_attribute afterwards) closes)) holds.error
      ∙ ap (λ closed. TellsTag (end_error rules.exact place ++ (repeated_error (all_attributes rules tag) ++ end_tag_errors closed closes)) (told_tag closed closes)) holds.closed

  -- from where its opening and its name are read as that
  reads-tag : (opened : Open) (tag : WrittenTag) → All (λ entry. IsTrue (is_plain_name entry.name)) rules.references → can_follow InName tag.parts ≡ true
      → Passes means rules opened (name_cells tag) (InTag InName (named_tag tag)) (flat_map part_text tag.parts ++ greater_than ∷ [])
      → ReadsTag opened tag
  reads-tag opened tag plain follow begins =
      let name : List ℕ = name_shown tag.first tag.rest in
      let parts : List Spelled = spell_parts rules InName [] tag.parts in
      let led : Led tag.kind name InName (named_tag tag) parts (end_place tag) (all_attributes rules tag) (greater_than ∷ []) =
      passes-parts tag.kind name InName [] (named_tag tag) tag.parts (greater_than ∷ []) plain (Holds-none tag.kind name) follow (λ needs. record { c = greater_than; more = []; parts = refl; stop = quote-stop Unquoted }) in
      record {
        afterwards = InTag (end_place tag) led.afterwards;
        passes =
            subst (λ cells. Passes means rules opened cells (InTag (end_place tag) led.afterwards) (greater_than ∷ []))
            (append_assoc (spell_silent (opening tag.kind)) (spell (null_error rules.exact state.TagName) (tag.first ∷ tag.rest)) parts)
            (passes-append means rules opened (InTag InName (named_tag tag)) (InTag (end_place tag) led.afterwards) (name_cells tag) parts (greater_than ∷ [])
            (subst (λ l. Passes means rules opened (name_cells tag) (InTag InName (named_tag tag)) (l ++ greater_than ∷ [])) (sym (characters-parts InName [] tag.parts)) begins)
            led.passes);
        ends = ends-tag tag led.afterwards (can_end-parts InName tag.parts refl) led.holds;
      }

  -- what is spelled is sent, and its `>` tells the tag
  pub trace-tag : (input : Input) (before : List ℕ) (s : S) (last : List ℕ) (opened afterwards : Open) (cells : List Spelled) (errors : List Told) (tag : TagOf)
      → Passes means rules opened cells afterwards (greater_than ∷ [])
      → step_at rules.exact afterwards greater_than ≡ TellsTag errors tag
      → trace means.step means.reply means.foreign rules s (line_after input before) last opened (characters cells ++ greater_than ∷ [])
      ≡ record {
        messages = spelled_messages rules.exact input before (cells ++ record { character = greater_than; told = errors ++ Tag tag ∷ [] } ∷ []);
        opened = open_after_reply (last_after last tag) (last_reply means.step means.reply s (spelled_messages rules.exact input before (cells ++ record { character = greater_than; told = errors ++ Tag tag ∷ [] } ∷ [])));
        last_start_tag = last_after last tag;
      }
  trace-tag input before s last opened afterwards cells errors tag passes ends =
      let past : List ℕ = before ++ characters cells in
      let line : ℕ = line_after input (past ++ greater_than ∷ []) in
      let tokens : List Told = bad_character_error rules.exact greater_than ++ errors in
      let M : List Message = spelled_messages rules.exact input before cells in
      let N : List Message = on_line line (tokens ++ Tag tag ∷ []) in
      let cell : Spelled = record { character = greater_than; told = errors ++ Tag tag ∷ [] } in
      let name : List ℕ = last_after last tag in
      let whole : spelled_messages rules.exact input before (cells ++ cell ∷ []) ≡ M ++ N =
      spelled_messages-append rules.exact input before cells (cell ∷ []) ∙ ap (λ l. M ++ l) (messages-cell means.step means.reply means.foreign rules input past greater_than errors tag) in
      passes input before s last
      ∙ ap (with_messages M) (trace-cell means.step means.reply means.foreign rules input past (stepped means.step s M) last afterwards greater_than errors tag ends)
      ∙ ap (λ r. record { messages = M ++ N; opened = open_after_reply name r; last_start_tag = name }) (sym (last_reply-append means.step means.reply s M line tokens (Tag tag)))
      ∙ ap (λ l. record { messages = l; opened = open_after_reply name (last_reply means.step means.reply s l); last_start_tag = name }) (sym whole)

  -- a text that is read as a tag up to its `>`
  abbrev pub IsReadAs : Start → S → List ℕ → WrittenTag → Type 0
  IsReadAs K s Y tag =
      let M : List Message = spelled_messages rules.exact K.input [] (spelled rules tag) in
      let last : List ℕ = last_after K.last_start_tag (tag_told rules tag) in
      trace means.step means.reply means.foreign rules s (line_after K.input []) K.last_start_tag K.opened (normalised K.input Y)
      ≡ record { messages = M; opened = open_after_reply last (last_reply means.step means.reply s M); last_start_tag = last }

  -- a tag tells what it spells, from where its opening and its name are read as that
  reads-from : (K : Start) (s : S) (Y : List ℕ) (opened : Open) (tag : WrittenTag) → All (λ entry. IsTrue (is_plain_name entry.name)) rules.references
      → K.opened ≡ opened → can_follow InName tag.parts ≡ true → normalised K.input Y ≡ written tag
      → Passes means rules opened (name_cells tag) (InTag InName (named_tag tag)) (flat_map part_text tag.parts ++ greater_than ∷ [])
      → IsReadAs K s Y tag
  unfolding spelled
  reads-from K s Y opened tag plain starts follow text begins =
      let r : ReadsTag opened tag = reads-tag opened tag plain follow begins in
      rw (starts, text, ← characters-body tag)
      (trace-tag K.input [] s K.last_start_tag opened r.afterwards (body rules tag) (end_errors rules tag) (tag_told rules tag) r.passes r.ends)

  pub tag-from : (K : Start) (s : S) (Y : List ℕ) (opened : Open) (tag : WrittenTag) → All (λ entry. IsTrue (is_plain_name entry.name)) rules.references
      → K.opened ≡ opened → can_follow InName tag.parts ≡ true → normalised K.input Y ≡ written tag
      → Passes means rules opened (name_cells tag) (InTag InName (named_tag tag)) (flat_map part_text tag.parts ++ greater_than ∷ [])
      → TellsByItself means rules K s Y (spelled_messages rules.exact K.input [] (spelled rules tag))
      (start_after_tag means K s Y (tag_told rules tag) (spelled_messages rules.exact K.input [] (spelled rules tag)))
  tag-from K s Y opened tag plain starts follow text begins =
      let M : List Message = spelled_messages rules.exact K.input [] (spelled rules tag) in
      trace-by_itself means rules K s Y M
      (open_after_reply (last_after K.last_start_tag (tag_told rules tag)) (last_reply means.step means.reply s M)) (last_after K.last_start_tag (tag_told rules tag))
      (reads-from K s Y opened tag plain starts follow text begins)

  -- a text that is one tag
  pub reads-one_tag : (K : Start) (s : S) (Y : List ℕ) (tag : WrittenTag) → IsTable rules.references → IsTag K Y tag → IsReadAs K s Y tag
  unfolding is_written
  reads-one_tag K s Y tag table one =
      let p = and_parts (is_letter tag.first) _ one.is_tag in
      let q = and_parts (list_all in_tag_name tag.rest) (can_follow InName tag.parts) p.1 in
      reads-from K s Y (Between Data) tag table.plain one.starts q.1 one.text (passes-name tag _ p.0 q.0)

  -- wherever it stands
  pub tag-by_itself : (K : Start) (s : S) (Y : List ℕ) (tag : WrittenTag) → IsTable rules.references → IsTag K Y tag
      → TellsByItself means rules K s Y (spelled_messages rules.exact K.input [] (spelled rules tag))
      (start_after_tag means K s Y (tag_told rules tag) (spelled_messages rules.exact K.input [] (spelled rules tag)))
  tag-by_itself K s Y tag table one =
      let M : List Message = spelled_messages rules.exact K.input [] (spelled rules tag) in
      trace-by_itself means rules K s Y M
      (open_after_reply (last_after K.last_start_tag (tag_told rules tag)) (last_reply means.step means.reply s M)) (last_after K.last_start_tag (tag_told rules tag))
      (reads-one_tag K s Y tag table one)
