-- What the machine tells of a text, with the lines that it counts.
use Rattle.std.proofs.Common.{◌≡◌, ℕ, Bool, false, List, [], ◌∷◌, ◌++◌, refl, ap, sym, ◌∙◌}
use Rattle.std.proofs.Math.Bool.{and-false}
use Rattle.std.proofs.lemmas.Bool.{false≢true, false_from_ne_true}
use Rattle.std.specs.Cmp.Lexicographic.{same_text}
use Rattle.std.specs.Prelude.{⊤, length, map}
use Rattle.std.specs.Str.{bytes_eq}
use Rattle.std.proofs.lemmas.List.{append-nil, map-append}
use Rattle.html5ever_interface.specs.Sink.{Message, stepped, on_line}
use Rattle.html5ever_interface.specs.Token.{Told, Reply}
use Rattle.html5ever_interface.specs.Token.Told.{Tag}
use Rattle.html5ever_interface.specs.Token.Reply.{KeepOn, ReadPlainText, ReadRawData, RunScript, SwitchEncoding}
use Rattle.html5ever_interface.specs.declared.states.AttrValueKind.TheVariants.{Unquoted, SingleQuoted, DoubleQuoted}
use Rattle.html5reading.specs.Cdata.{cdata}
use Rattle.html5reading.specs.Cutting.{rest_of}
use Rattle.html5reading.specs.ErrorText.{bad_character_error}
use Rattle.html5reading.specs.Reading.{TextPlace, Event, Here, Brought, Read, events_at, late_events, messages, open_after, last_after, open_after_reply, with_events, read_here, read_from}
use Rattle.html5reading.specs.Reading.TextPlace.{Character}
use Rattle.html5reading.specs.Reference.{reference_text, after_held}
use Rattle.html5reading.specs.NormalisedText.{line_after}
use Rattle.html5reading.proofs.InputLemmas.{line_past, line_after-past}
use Rattle.html5reading.specs.Reading.Here.{Tells, TellsTag}
use Rattle.html5reading.specs.Slice.{Late, cut_off, run_of, after_run, run_while, after_while, tokens_of_late}
use Rattle.html5reading.specs.Start.{Start, Open, Rules, is_undecided_open}
use Rattle.html5reading.specs.Start.Place.{InName, BeforeAttribute, InAttributeName, AfterAttributeName, BeforeValue, InValue, AfterQuotedValue, AfterSolidus}
use Rattle.html5reading.specs.Start.DoctypePlace.{AfterWord, BeforeName, InDoctypeName, AfterName, AfterKeyword, BeforeIdentifier, InIdentifier, AfterIdentifier, BetweenIdentifiers, Skipped}
use Rattle.html5reading.specs.Start.Open.{Between, LessThan, LessThanSolidus, InTag, InRaw, InDeclaration, InComment, InBogusComment, InInstruction, InDoctype, InDoctypeKeyword, InCdata, InReference}
use Rattle.html5reading.specs.Tag.{tag_name, after_tag_name, attribute_after_first, after_attribute_name, after_name_and_space, value_or_next, value_after_space, value, quoted_value, after_quoted, unquoted_value, after_unquoted}
use Rattle.html5reading.specs.Comment.{begins_cdata, cdata_keyword, declaration, comment, bogus_comment, after_bogus_comment}
use Rattle.html5reading.specs.Instruction.{instruction, after_instruction}
use Rattle.html5reading.specs.Doctype.{doctype, before_doctype_name, after_word_and_space, doctype_name, after_doctype_name, after_doctype_name_and_space, keyword_or_end, doctype_keyword, after_keyword, identifier_after_space, after_keyword_and_space, identifier, after_in_identifier, between_identifiers, after_space_between, skipped_rest, after_skipped_rest}
use Rattle.html5reading.specs.RawText.{after_raw_less_than, end_name, after_end_name, after_mark, after_mark_and_dash, switch, after_switch}
use Rattle.html5reading.specs.Start.RawPlace.{AfterLessThan, InEndName, AfterMark, AfterMarkAndDash, InSwitch}
use Rattle.html5reading.specs.Text.{after_less_than, after_solidus}
use Rattle.html5reading.specs.Machine.{step_at, declaration_answer_step, declaration_step, brought_at}
use Rattle.html5reading.proofs.Slices.{going, rest_of-brought_at, with_name-nil, with_last_name-nil, with_value-nil, with_doctype_name-nil, with_identifier-nil}

-- the messages of a text, and what is open after it, with the name of the last start tag
pub record Trace : Type 0 where
  pub messages : List Message
  pub opened : Open
  pub last_start_tag : List ℕ

abbrev pub with_messages : List Message → Trace → Trace
with_messages M trace = record { messages = M ++ trace.messages; opened = trace.opened; last_start_tag = trace.last_start_tag }

module _ {S H : Type 0} (step : S → Told → ℕ → S) (reply : S → Told → ℕ → Reply H) (foreign : S → Bool) (rules : Rules) where
  -- what is sent at a character, on its line, and then by what goes on
  unfoldable pub trace_here : (S → List ℕ → Open → Trace) → S → ℕ → List ℕ → ℕ → Here Open → Trace
  trace_here rest s line last c (Tells told opened) =
      let M : List Message = on_line line (bad_character_error rules.exact c ++ told) in
      with_messages M (rest (stepped step s M) last opened)
  trace_here rest s line last c (TellsTag told tag) =
      let t : S = stepped step s (on_line line (bad_character_error rules.exact c ++ told)) in
      let name : List ℕ = last_after last tag in
      with_messages (on_line line ((bad_character_error rules.exact c ++ told) ++ Tag tag ∷ []))
      (rest (step t (Tag tag) line) name (open_after_reply name (reply t (Tag tag) line)))

  -- what a character brings: first what it decides, on the line before it
  unfoldable pub trace_brought : (S → List ℕ → Open → Trace) → S → ℕ → List ℕ → ℕ → Brought Open → Trace
  trace_brought rest s line last c next =
      let M : List Message = on_line line (tokens_of_late next.settled) in
      with_messages M (trace_here rest (stepped step s M) (line_past line c) last c next.here)

  unfoldable pub trace : S → ℕ → List ℕ → Open → List ℕ → Trace
  trace s line last opened [] = record { messages = []; opened = opened; last_start_tag = last }
  trace s line last opened (c ∷ text) =
      trace_brought (λ t name later. trace t (line_past line c) name later text) s line last c (brought_at rules (foreign s) opened c)

-- a character decides nothing that stands before it when nothing is undecided

-- when nothing is undecided a character brings its step, and settles nothing
pub brought-step : (rules : Rules) (foreign : Bool) (opened : Open) (c : ℕ) → is_undecided_open opened ≡ false
    → brought_at rules foreign opened c ≡ record { settled = []; here = step_at rules.exact opened c }
unfolding brought_at step_at
brought-step rules foreign (Between mode) c h = refl
brought-step rules foreign LessThan c h = refl
brought-step rules foreign LessThanSolidus c h = refl
brought-step rules foreign (InTag place tag) c h = refl
brought-step rules foreign (InRaw place name) c h = refl
brought-step rules foreign (InDeclaration held) c h = absurd (false≢true (sym h))
brought-step rules foreign (InComment before) c h = refl
brought-step rules foreign (InBogusComment before) c h = refl
brought-step rules foreign (InInstruction before) c h = refl
brought-step rules foreign (InDoctype place d) c h = refl
brought-step rules foreign (InDoctypeKeyword held d) c h = absurd (false≢true (sym h))
brought-step rules foreign (InCdata held) c h = refl
brought-step rules foreign (InReference stand held) c h = absurd (false≢true (sym h))

pub brought-tells : (rules : Rules) (foreign : Bool) (opened : Open) (c : ℕ) (h : Here Open) → is_undecided_open opened ≡ false → step_at rules.exact opened c ≡ h
    → brought_at rules foreign opened c ≡ record { settled = []; here = h }
brought-tells rules foreign opened c h decided e = brought-step rules foreign opened c decided ∙ rw e refl

-- the sink's answer decides nothing when no CDATA section can begin

pub none_without_beginning : (text : List ℕ) → begins_cdata text ≡ false → bytes_eq text cdata_keyword ≡ false
unfolding begins_cdata
none_without_beginning text h = false_from_ne_true (bytes_eq text cdata_keyword) (λ e.
    false≢true (sym h ∙ ap begins_cdata (same_text text cdata_keyword (sym e))))

pub brought-unasked : (rules : Rules) (foreign other : Bool) (held : List ℕ) (c : ℕ) → begins_cdata (held ++ c ∷ []) ≡ false
    → brought_at rules foreign (InDeclaration held) c ≡ brought_at rules other (InDeclaration held) c
unfolding brought_at declaration_step declaration_answer_step
brought-unasked rules foreign other held c h =
    rw (none_without_beginning (held ++ c ∷ []) h, h, and-false foreign, and-false other) refl

-- what is open where a slice has no more

-- the rests of slices: what the next answer unfolds
rests-of_tags : ⊤
unfolding rest_of tag_name after_tag_name attribute_after_first after_attribute_name after_name_and_space value_or_next value_after_space value quoted_value after_quoted unquoted_value after_unquoted after_less_than after_solidus after_raw_less_than end_name after_end_name after_mark after_mark_and_dash switch after_switch
rests-of_tags = tt

rests-of_comments : ⊤
unfolding declaration cdata comment bogus_comment after_bogus_comment instruction after_instruction
rests-of_comments = tt

rests-of_doctypes : ⊤
unfolding doctype before_doctype_name after_word_and_space doctype_name after_doctype_name after_doctype_name_and_space keyword_or_end doctype_keyword after_keyword identifier_after_space after_keyword_and_space identifier after_in_identifier between_identifiers after_space_between skipped_rest after_skipped_rest reference_text after_held run_while after_while run_of after_run
rests-of_doctypes = tt

-- before an empty text the open item stays open
pub rest_of-nil : (rules : Rules) (opened : Open) → open_after (rest_of rules opened []).afterwards ≡ opened
unfolding rests-of_tags rests-of_comments rests-of_doctypes
rest_of-nil rules (Between mode) = refl
rest_of-nil rules LessThan = refl
rest_of-nil rules LessThanSolidus = refl
rest_of-nil rules (InTag InName tag) = ap (InTag InName) (with_name-nil tag)
rest_of-nil rules (InTag BeforeAttribute tag) = refl
rest_of-nil rules (InTag InAttributeName tag) = ap (InTag InAttributeName) (with_last_name-nil tag)
rest_of-nil rules (InTag AfterAttributeName tag) = refl
rest_of-nil rules (InTag BeforeValue tag) = refl
rest_of-nil rules (InTag (InValue Unquoted) tag) = ap (InTag (InValue Unquoted)) (with_value-nil tag)
rest_of-nil rules (InTag (InValue SingleQuoted) tag) = ap (InTag (InValue SingleQuoted)) (with_value-nil tag)
rest_of-nil rules (InTag (InValue DoubleQuoted) tag) = ap (InTag (InValue DoubleQuoted)) (with_value-nil tag)
rest_of-nil rules (InTag AfterQuotedValue tag) = refl
rest_of-nil rules (InTag AfterSolidus tag) = refl
rest_of-nil rules (InRaw (AfterLessThan kind) name) = refl
rest_of-nil rules (InRaw (InEndName kind letters) name) = ap (λ l. InRaw (InEndName kind l) name) (append-nil letters)
rest_of-nil rules (InRaw AfterMark name) = refl
rest_of-nil rules (InRaw AfterMarkAndDash name) = refl
rest_of-nil rules (InRaw (InSwitch kind letters) name) = ap (λ l. InRaw (InSwitch kind l) name) (append-nil letters)
rest_of-nil rules (InDeclaration held) = refl
rest_of-nil rules (InComment before) = refl
rest_of-nil rules (InBogusComment before) = ap InBogusComment (append-nil before)
rest_of-nil rules (InInstruction before) = ap InInstruction (append-nil before)
rest_of-nil rules (InDoctype AfterWord d) = refl
rest_of-nil rules (InDoctype BeforeName d) = refl
rest_of-nil rules (InDoctype InDoctypeName d) = ap (InDoctype InDoctypeName) (with_doctype_name-nil d)
rest_of-nil rules (InDoctype AfterName d) = refl
rest_of-nil rules (InDoctype (AfterKeyword kind) d) = refl
rest_of-nil rules (InDoctype (BeforeIdentifier kind) d) = refl
rest_of-nil rules (InDoctype (InIdentifier quotes kind) d) = ap (InDoctype (InIdentifier quotes kind)) (with_identifier-nil kind d)
rest_of-nil rules (InDoctype (AfterIdentifier kind) d) = refl
rest_of-nil rules (InDoctype BetweenIdentifiers d) = refl
rest_of-nil rules (InDoctype Skipped d) = refl
rest_of-nil rules (InDoctypeKeyword held d) = refl
rest_of-nil rules (InCdata held) = refl
rest_of-nil rules (InReference stand held) = ap (InReference stand) (append-nil held)

-- after a tag a new slice begins
pub rest_of-reply : {H : Type 0} → (rules : Rules) (last : List ℕ) (r : Reply H) (text : List ℕ) → cut_off (open_after_reply last r) ≡ rest_of rules (open_after_reply last r) text
unfolding rest_of
rest_of-reply rules last KeepOn text = refl
rest_of-reply rules last ReadPlainText text = refl
rest_of-reply rules last (ReadRawData kind) text = refl
rest_of-reply rules last (RunScript handle) text = refl
rest_of-reply rules last (SwitchEncoding bytes) text = refl

pub messages-map : (f : Told → Event) (g : Told → Message) → ((t : Told) → (f t).message ≡ g t) → (ts : List Told) → messages (map f ts) ≡ map g ts
messages-map f g h [] = refl
messages-map f g h (t ∷ ts) = rw (h t) (ap (λ l. g t ∷ l) (messages-map f g h ts))

pub messages-append : (E F : List Event) → messages (E ++ F) ≡ messages E ++ messages F
messages-append E F = map-append (λ (e : Event). e.message) E F

-- a reading tells the messages of the trace, and leaves the same open
pub record Traces (read : Read) (trace : Trace) : Type 0 where
  pub messages : messages read.events ≡ trace.messages
  pub opened : read.opened ≡ trace.opened
  pub last_start_tag : read.last_start_tag ≡ trace.last_start_tag

module _ {S H : Type 0} (step : S → Told → ℕ → S) (reply : S → Told → ℕ → Reply H) (foreign : S → Bool) (rules : Rules) (K : Start) where
  messages-events_at : (before : List ℕ) (c : ℕ) (tokens : List Told)
      → messages (events_at K.input before c tokens) ≡ on_line (line_past (line_after K.input before) c) tokens
  unfolding events_at
  messages-events_at before c tokens =
      messages-map _ _ (λ t. refl) tokens ∙ ap (λ line. on_line line tokens) (line_after-past K.input before c)

  Traces-with : (E : List Event) (M : List Message) (read : Read) (trace : Trace) → messages E ≡ M → Traces read trace
      → Traces (record { events = E ++ read.events; opened = read.opened; last_start_tag = read.last_start_tag }) (with_messages M trace)
  Traces-with E M read trace e t = record {
    messages = messages-append E read.events ∙ rw (e, t.messages) refl;
    opened = t.opened;
    last_start_tag = t.last_start_tag;
  }

  -- what goes on after c traces what goes on in the machine
  abbrev TracesAfter : List ℕ → ℕ → List ℕ → Type 0
  TracesAfter before c text = (t : S) (name : List ℕ) (opened : Open)
      → Traces (read_from step reply foreign rules K t name (before ++ c ∷ []) (rest_of rules opened text) text)
      (trace step reply foreign rules t (line_past (line_after K.input before) c) name opened text)

  -- one character: its events are those of the trace, where the rest traces
  traces-here : (s : S) (last : List ℕ) (before : List ℕ) (c : ℕ) (text : List ℕ) (h : Here Open)
      → TracesAfter before c text
      → Traces
      (read_here step reply foreign rules K (λ t name rest. read_from step reply foreign rules K t name (before ++ c ∷ []) rest text) cut_off s last before c (going (λ opened. rest_of rules opened text) h))
      (trace_here step reply foreign rules (λ t name later. trace step reply foreign rules t (line_past (line_after K.input before) c) name later text) s (line_past (line_after K.input before) c) last c h)
  unfolding trace_here
  traces-here s last before c text (Tells told opened) ih =
      rw (line_after-past K.input before c)
      (Traces-with _ _ _ _ (messages-events_at before c (bad_character_error rules.exact c ++ told)) (ih _ last opened))
  traces-here s last before c text (TellsTag told tag) ih =
      let line : ℕ = line_past (line_after K.input before) c in
      let t : S = stepped step s (on_line line (bad_character_error rules.exact c ++ told)) in
      rw (line_after-past K.input before c, rest_of-reply rules (last_after last tag) (reply t (Tag tag) line) text)
      (Traces-with _ _ _ _ (messages-events_at before c ((bad_character_error rules.exact c ++ told) ++ Tag tag ∷ [])) (ih _ _ _))

  pub messages-late : (before : List ℕ) (place : TextPlace) (late : List Late)
      → messages (late_events K.input before place late) ≡ on_line (line_after K.input before) (tokens_of_late late)
  unfolding late_events
  messages-late before place [] = refl
  messages-late before place (l ∷ late) =
      ap (λ M. record { token = l.token; line = line_after K.input before } ∷ M) (messages-late before place late)

  traces-brought : (s : S) (last : List ℕ) (before : List ℕ) (c : ℕ) (text : List ℕ) (next : Brought Open)
      → TracesAfter before c text
      → Traces
      (with_events (late_events K.input before (Character (length before)) next.settled)
      (read_here step reply foreign rules K (λ t name rest. read_from step reply foreign rules K t name (before ++ c ∷ []) rest text) cut_off
      (stepped step s (on_line (line_after K.input before) (tokens_of_late next.settled))) last before c (going (λ opened. rest_of rules opened text) next.here)))
      (trace_brought step reply foreign rules (λ t name later. trace step reply foreign rules t (line_past (line_after K.input before) c) name later text) s (line_after K.input before) last c next)
  unfolding trace_brought
  traces-brought s last before c text next ih =
      Traces-with _ _ _ _ (messages-late before (Character (length before)) next.settled) (traces-here _ last before c text next.here ih)

  pub traces : (s : S) (last : List ℕ) (before : List ℕ) (opened : Open) (text : List ℕ)
      → Traces (read_from step reply foreign rules K s last before (rest_of rules opened text) text) (trace step reply foreign rules s (line_after K.input before) last opened text)
  unfolding read_from trace
  traces s last before opened [] = record { messages = refl; opened = rest_of-nil rules opened; last_start_tag = refl }
  traces s last before opened (c ∷ text) =
      rw (rest_of-brought_at rules (foreign s) c text opened)
      (traces-brought s last before c text (brought_at rules (foreign s) opened c)
      (λ t name later. rw (← line_after-past K.input before c) (traces t name (before ++ c ∷ []) later text)))
