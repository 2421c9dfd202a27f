-- Reading a text in two parts: the second is read anew from the start after the first.
use Rattle.std.proofs.Common.{◌≡◌, ℕ, Bool, true, false, List, [], ◌∷◌, ◌++◌, refl, ap, sym, ◌∙◌}
use Rattle.std.specs.Prelude.{suc, ◌-◌, None, length, drop, map, take_while, if◌then◌else◌}
use Rattle.std.proofs.lemmas.Bool.{false≢true}
use Rattle.std.proofs.lemmas.List.{append_assoc, append-nil, map-append}
use native.Mathlib.Numerals.{one-add}
use Rattle.html5ever_interface.proofs.Steppings.{stepped-append}
use Rattle.html5ever_interface.specs.Sink.{Message, stepped, on_line}
use Rattle.html5ever_interface.specs.Token.{Told, Reply}
use Rattle.html5ever_interface.specs.Token.Told.{Tag}
use Rattle.html5reading.specs.Cutting.{rest_of}
use Rattle.html5reading.specs.EndOfInput.{late_at_end_of, open_at_end_of, told_at_end_of, tokens_at_end}
use Rattle.html5reading.specs.Doctype.{keyword_error}
use Rattle.html5reading.specs.ErrorText.{bad_character_error}
use Rattle.html5reading.specs.NormalisedText.{with_line_feeds, without_dropped_first, normalised, line_after, input_after}
use Rattle.html5reading.specs.Reading.{Event, Here, Brought, Read, brought, is_character, events_at, late_event, late_events, read_here, read_from, read, end_events, reading, told, messages, after, last_after, open_after_reply}
use Rattle.html5reading.specs.Reading.TextPlace.{Character, EndOfInput}
use Rattle.html5reading.specs.Reference.{Found, in_value, reference, held_text, late_tokens}
use Rattle.html5ever_interface.specs.declared.states.AttrValueKind.{AttrValueKind}
use Rattle.html5reading.specs.Reading.Here.{Tells, TellsTag}
use Rattle.html5reading.specs.Slice.{Slice, Late, cut_off, tokens_of_late}
use Rattle.html5reading.specs.Start.{Input, OpenTag, Stand, Start, Open, Mode, Rules, nothing_open}
use Rattle.html5reading.specs.Start.Mode.{Data, Plain, RawText, Cdata}
use Rattle.html5reading.specs.Start.Stand.{InText, InAttribute}
use Rattle.html5reading.specs.Start.Open.{Between, LessThan, LessThanSolidus, InTag, InRaw, InDeclaration, InComment, InBogusComment, InInstruction, InDoctype, InDoctypeKeyword, InReference, InCdata}
use Rattle.html5reading.specs.Machine.{brought_at, messages_here, opened_here, last_here}
use Rattle.html5reading.proofs.InputLemmas.{line_past, lines_past, normalised-append, input_after-line_none, input_after-append, input_after-line_one}
use Rattle.html5reading.proofs.Traces.{Trace, Traces, with_messages, trace, trace_here, trace_brought, traces, messages-append, messages-map, messages-late}

-- when nothing is open there is a mode
pub between-mode : (opened : Open) → nothing_open opened ≡ true → (mode : Mode) × (opened ≡ Between mode)
between-mode (Between mode) h = (mode, refl)
between-mode LessThan h = absurd (false≢true h)
between-mode LessThanSolidus h = absurd (false≢true h)
between-mode (InTag place tag) h = absurd (false≢true h)
between-mode (InRaw place name) h = absurd (false≢true h)
between-mode (InDeclaration held) h = absurd (false≢true h)
between-mode (InComment before) h = absurd (false≢true h)
between-mode (InBogusComment before) h = absurd (false≢true h)
between-mode (InInstruction text) h = absurd (false≢true h)
between-mode (InDoctype place d) h = absurd (false≢true h)
between-mode (InDoctypeKeyword held d) h = absurd (false≢true h)
between-mode (InCdata held) h = absurd (false≢true h)
between-mode (InReference stand held) h = absurd (false≢true h)

pub take_while-cons : {X : Type 0} → (p : X → Bool) (x : X) (xs : List X) → p x ≡ true → take_while p (x ∷ xs) ≡ x ∷ take_while p xs
take_while-cons p x xs h = rw (h, one-add) refl

pub take_while-map : {X E : Type 0} → (p : E → Bool) (f : X → E) → ((x : X) → p (f x) ≡ true) → (xs : List X) (ys : List E)
    → take_while p (map f xs ++ ys) ≡ map f xs ++ take_while p ys
take_while-map p f h [] ys = refl
take_while-map p f h (x ∷ xs) ys =
    take_while-cons p (f x) (map f xs ++ ys) (h x) ∙ ap (λ l. f x ∷ l) (take_while-map p f h xs ys)

decided-events_at : (I : Input) (before : List ℕ) (c : ℕ) (tokens : List Told) (F E : List Event)
    → take_while (λ e. is_character e.decided_by) (F ++ E) ≡ F ++ take_while (λ e. is_character e.decided_by) E
    → take_while (λ e. is_character e.decided_by) ((events_at I before c tokens ++ F) ++ E)
    ≡ (events_at I before c tokens ++ F) ++ take_while (λ e. is_character e.decided_by) E
unfolding events_at
decided-events_at I before c tokens F E ih =
    rw (append_assoc (events_at I before c tokens) F E)
    (take_while-map (λ e. is_character e.decided_by) _ (λ token. refl) tokens (F ++ E)
    ∙ ap (λ l. events_at I before c tokens ++ l) ih
    ∙ sym (append_assoc (events_at I before c tokens) F (take_while (λ e. is_character e.decided_by) E)))

none_decided : (f : Told → Event) → ((x : Told) → is_character (f x).decided_by ≡ false) → (tokens : List Told)
    → take_while (λ (e : Event). is_character e.decided_by) (map f tokens) ≡ []
none_decided f h [] = refl
none_decided f h (x ∷ tokens) = rw (h x) refl

-- no character decides what the end tells
decided-told_at_end : (exact : Bool) (opened : Open) (f : Told → Event) → ((x : Told) → is_character (f x).decided_by ≡ false)
    → take_while (λ (e : Event). is_character e.decided_by) (map f (told_at_end_of exact opened)) ≡ []
unfolding told_at_end_of
decided-told_at_end exact (Between Data) f h = rw (h _) refl
decided-told_at_end exact (Between Plain) f h = rw (h _) refl
decided-told_at_end exact (Between Cdata) f h = rw (h _) refl
decided-told_at_end exact (Between (RawText raw name)) f h = none_decided f h _
decided-told_at_end exact LessThan f h = rw (h _) refl
decided-told_at_end exact LessThanSolidus f h = rw (h _) refl
decided-told_at_end exact (InTag place tag) f h = rw (h _) refl
decided-told_at_end exact (InRaw place name) f h = none_decided f h _
decided-told_at_end exact (InDeclaration held) f h = refl
decided-told_at_end exact (InComment before) f h = none_decided f h (told_at_end_of exact (InComment before))
decided-told_at_end exact (InBogusComment before) f h = rw (h _) refl
decided-told_at_end exact (InInstruction before) f h = none_decided f h (told_at_end_of exact (InInstruction before))
decided-told_at_end exact (InDoctype place d) f h = none_decided f h (told_at_end_of exact (InDoctype place d))
decided-told_at_end exact (InDoctypeKeyword held d) f h = refl
decided-told_at_end exact (InCdata held) f h = none_decided f h (told_at_end_of exact (InCdata held))
decided-told_at_end exact (InReference stand held) f h = refl

-- what a character decides late is decided by characters

decided-late_event : (I : Input) (before : List ℕ) (k : ℕ) (l : Late) → is_character (late_event I before (Character k) l).decided_by ≡ true
decided-late_event I before k l = elim l.is_held as (λ b. is_character (if b then Character (suc (length before) - l.back) else Character k) ≡ true) [
  | true ↦ refl
  | false ↦ refl
]

decided-late : (I : Input) (before : List ℕ) (k : ℕ) (late : List Late) (F E : List Event)
    → take_while (λ e. is_character e.decided_by) (F ++ E) ≡ F ++ take_while (λ e. is_character e.decided_by) E
    → take_while (λ e. is_character e.decided_by) ((late_events I before (Character k) late ++ F) ++ E)
    ≡ (late_events I before (Character k) late ++ F) ++ take_while (λ e. is_character e.decided_by) E
unfolding late_events
decided-late I before k late F E ih =
    rw (append_assoc (late_events I before (Character k) late) F E)
    (take_while-map (λ e. is_character e.decided_by) _ (decided-late_event I before k) late (F ++ E)
    ∙ ap (λ l. late_events I before (Character k) late ++ l) ih
    ∙ sym (append_assoc (late_events I before (Character k) late) F (take_while (λ e. is_character e.decided_by) E)))

-- what the end decides of a reference is not

late_first : (I : Input) (Y : List ℕ) (back : ℕ) (tokens : List Told) (later : List Late) (E : List Event) → (t : Told) (ts : List Told) → tokens ≡ t ∷ ts
    → take_while (λ (e : Event). is_character e.decided_by)
    (late_events I Y EndOfInput (map (λ token. record { token = token; back = back; is_at = false; is_held = false }) tokens ++ later) ++ E) ≡ []
unfolding late_events
late_first I Y back tokens later E t ts e = rw e refl

pub held_text-in_value : (kind : AttrValueKind) (tag : OpenTag) (held : List ℕ) → held_text (InAttribute kind tag) held ≡ []
unfolding held_text
held_text-in_value kind tag [] = refl
held_text-in_value kind tag (c ∷ held) = held_text-in_value kind tag held

module _ (I : Input) (Y : List ℕ) (E : List Event) (none : take_while (λ (e : Event). is_character e.decided_by) E ≡ []) where
  decided-none : (back : ℕ) (errors : List Told)
      → take_while (λ (e : Event). is_character e.decided_by)
      (late_events I Y EndOfInput (map (λ token. record { token = token; back = back; is_at = false; is_held = false }) (errors ++ []) ++ []) ++ E) ≡ []
  unfolding late_events
  decided-none back [] = none
  decided-none back (t ∷ errors) = late_first I Y back (t ∷ (errors ++ [])) [] E t (errors ++ []) refl

  decided-text : (back : ℕ) (errors : List Told) (t : Told) (ts : List Told) (later : List Late)
      → take_while (λ (e : Event). is_character e.decided_by)
      (late_events I Y EndOfInput (map (λ token. record { token = token; back = back; is_at = false; is_held = false }) (errors ++ t ∷ ts) ++ later) ++ E) ≡ []
  decided-text back [] t ts later = late_first I Y back (t ∷ ts) later E t ts refl
  decided-text back (x ∷ errors) t ts later = late_first I Y back (x ∷ (errors ++ t ∷ ts)) later E x (errors ++ t ∷ ts) refl

  decided-late_tokens : (stand : Stand) (found : Found) (held : List ℕ)
      → take_while (λ (e : Event). is_character e.decided_by) (late_events I Y EndOfInput (late_tokens stand found held) ++ E) ≡ []
  decided-late_tokens (InText mode) found held = decided-text _ found.errors _ _ _
  decided-late_tokens (InAttribute kind tag) found held =
      rw (held_text-in_value kind tag (drop found.taken held)) (decided-none _ found.errors)

  -- no character decides what the end decides of a reference or a keyword
  decided-late_at_end : (rules : Rules) (opened : Open)
      → take_while (λ (e : Event). is_character e.decided_by) (late_events I Y EndOfInput (late_at_end_of rules opened) ++ E) ≡ []
  unfolding late_at_end_of late_events keyword_error
  decided-late_at_end rules (Between mode) = none
  decided-late_at_end rules LessThan = none
  decided-late_at_end rules LessThanSolidus = none
  decided-late_at_end rules (InTag place tag) = none
  decided-late_at_end rules (InRaw place name) = none
  decided-late_at_end rules (InDeclaration held) = refl
  decided-late_at_end rules (InComment before) = none
  decided-late_at_end rules (InBogusComment before) = none
  decided-late_at_end rules (InInstruction before) = none
  decided-late_at_end rules (InDoctype place d) = none
  decided-late_at_end rules (InDoctypeKeyword [] d) = none
  decided-late_at_end rules (InDoctypeKeyword (c ∷ held) d) = refl
  decided-late_at_end rules (InCdata held) = none
  decided-late_at_end rules (InReference stand held) = decided-late_tokens stand (reference rules (in_value stand) held None) held

module _ {S H : Type 0} (step : S → Told → ℕ → S) (reply : S → Told → ℕ → Reply H) (foreign : S → Bool) (rules : Rules) where
  abbrev pub start_beyond : Start → S → List ℕ → Start
  start_beyond K s X = after step reply foreign rules K s X

  -- characters decide the events of a reading, except for those of the end

  decided-end : (K : Start) (opened : Open) (Y : List ℕ)
      → take_while (λ (e : Event). is_character e.decided_by) (end_events step reply foreign rules K opened Y) ≡ []
  unfolding end_events
  decided-end K opened Y =
      decided-late_at_end K.input Y _ (decided-told_at_end rules.exact (open_at_end_of rules opened) _ (λ x. refl)) rules opened

  decided-here : (K : Start) (s : S) (last : List ℕ) (before : List ℕ) (c : ℕ) (h : Here Slice) (rest : S → List ℕ → Slice → Read) (E : List Event)
      → ((t : S) (name : List ℕ) (slice : Slice) → take_while (λ e. is_character e.decided_by) ((rest t name slice).events ++ E) ≡ (rest t name slice).events ++ take_while (λ e. is_character e.decided_by) E)
      → take_while (λ e. is_character e.decided_by) ((read_here step reply foreign rules K rest cut_off s last before c h).events ++ E)
      ≡ (read_here step reply foreign rules K rest cut_off s last before c h).events ++ take_while (λ e. is_character e.decided_by) E
  decided-here K s last before c (Tells told goes_on) rest E ih = decided-events_at K.input before c _ (rest _ last goes_on).events E (ih _ last goes_on)
  decided-here K s last before c (TellsTag told tag) rest E ih = decided-events_at K.input before c _ (rest _ _ _).events E (ih _ _ _)

  decided-read_from : (K : Start) (s : S) (last : List ℕ) (before : List ℕ) (slice : Slice) (Y : List ℕ) (E : List Event)
      → take_while (λ e. is_character e.decided_by) ((read_from step reply foreign rules K s last before slice Y).events ++ E)
      ≡ (read_from step reply foreign rules K s last before slice Y).events ++ take_while (λ e. is_character e.decided_by) E
  unfolding read_from
  decided-read_from K s last before slice [] E = refl
  decided-read_from K s last before slice (c ∷ Y) E =
      decided-late K.input before (length before) (brought rules (foreign s) slice c Y).settled _ E
      (decided-here K _ last before c (brought rules (foreign s) slice c Y).here (λ t name rest. read_from step reply foreign rules K t name (before ++ c ∷ []) rest Y) E
      (λ t name rest. decided-read_from K t name (before ++ c ∷ []) rest Y E))

  pub told-events : (K : Start) (s : S) (X : List ℕ) → told step reply foreign rules K s X ≡ (read step reply foreign rules K s X).events
  unfolding told reading read
  told-events K s X =
      decided-read_from K s K.last_start_tag [] (rest_of rules K.opened (normalised K.input X)) (normalised K.input X) _
      ∙ rw (decided-end K (read step reply foreign rules K s X).opened (normalised K.input X)) (append-nil (read step reply foreign rules K s X).events)

  pub reading-events : (K : Start) (s : S) (X : List ℕ)
      → reading step reply foreign rules K s X ≡ told step reply foreign rules K s X ++ end_events step reply foreign rules K (read step reply foreign rules K s X).opened (normalised K.input X)
  unfolding reading
  reading-events K s X = rw (told-events K s X) refl

  -- the messages of the end
  pub messages-at_end : (K : Start) (s : S) (X : List ℕ)
      → messages (end_events step reply foreign rules K (read step reply foreign rules K s X).opened (normalised K.input X))
      ≡ on_line (line_after K.input (normalised K.input X)) (tokens_at_end rules (start_beyond K s X).opened)
  unfolding end_events
  messages-at_end K s X =
      let Y : List ℕ = normalised K.input X in
      let opened : Open = (read step reply foreign rules K s X).opened in
      let tokens : List Told = told_at_end_of rules.exact (open_at_end_of rules opened) in
      let message : Told → Message = λ token. record { token = token; line = line_after K.input Y } in
      messages-append (late_events K.input Y EndOfInput (late_at_end_of rules opened)) _
      ∙ rw (messages-late step reply foreign rules K Y EndOfInput (late_at_end_of rules opened), messages-map (λ token. record { message = message token; stands = EndOfInput; decided_by = EndOfInput }) message (λ t. refl) tokens)
      (sym (map-append message (tokens_of_late (late_at_end_of rules opened)) tokens))

  -- the trace of a text

  pub read-traces : (K : Start) (s : S) (X : List ℕ)
      → Traces (read step reply foreign rules K s X) (trace step reply foreign rules s (line_after K.input []) K.last_start_tag K.opened (normalised K.input X))
  unfolding read
  read-traces K s X = traces step reply foreign rules K s K.last_start_tag [] K.opened (normalised K.input X)

  pub told-trace : (K : Start) (s : S) (X : List ℕ)
      → messages (told step reply foreign rules K s X) ≡ (trace step reply foreign rules s (line_after K.input []) K.last_start_tag K.opened (normalised K.input X)).messages
  told-trace K s X = ap messages (told-events K s X) ∙ (read-traces K s X).messages

  abbrev going_on : S → ℕ → Trace → List ℕ → Trace
  going_on s line t W = with_messages t.messages (trace step reply foreign rules (stepped step s t.messages) line t.last_start_tag t.opened W)

  going_on-with : (s : S) (line : ℕ) (M : List Message) (t : Trace) (W : List ℕ)
      → with_messages M (going_on (stepped step s M) line t W) ≡ going_on s line (with_messages M t) W
  going_on-with s line M t W =
      let rest : Trace = trace step reply foreign rules (stepped step (stepped step s M) t.messages) line t.last_start_tag t.opened W in
      rw (stepped-append step s M t.messages) (ap (λ l. record { messages = l; opened = rest.opened; last_start_tag = rest.last_start_tag })
      (sym (append_assoc M t.messages rest.messages)))

  stepped-last : (s : S) (line : ℕ) (tokens : List Told) (token : Told)
      → step (stepped step s (on_line line tokens)) token line ≡ stepped step s (on_line line (tokens ++ token ∷ []))
  unfolding stepped
  stepped-last s line [] token = refl
  stepped-last s line (x ∷ tokens) token = stepped-last (step s x line) line tokens token

  -- one character of a trace that goes on over two texts
  trace-append-here : (s : S) (line : ℕ) (last : List ℕ) (c : ℕ) (Y W : List ℕ) (h : Here Open)
      → ((t : S) (name : List ℕ) (later : Open) → trace step reply foreign rules t line name later (Y ++ W) ≡ going_on t (lines_past line Y) (trace step reply foreign rules t line name later Y) W)
      → trace_here step reply foreign rules (λ t name later. trace step reply foreign rules t line name later (Y ++ W)) s line last c h
      ≡ going_on s (lines_past line Y) (trace_here step reply foreign rules (λ t name later. trace step reply foreign rules t line name later Y) s line last c h) W
  unfolding trace_here
  trace-append-here s line last c Y W (Tells told later) ih =
      let M : List Message = on_line line (bad_character_error rules.exact c ++ told) in
      ap (with_messages M) (ih (stepped step s M) last later)
      ∙ going_on-with s (lines_past line Y) M (trace step reply foreign rules (stepped step s M) line last later Y) W
  trace-append-here s line last c Y W (TellsTag told tag) ih =
      let tokens : List Told = bad_character_error rules.exact c ++ told in
      let M : List Message = on_line line (tokens ++ Tag tag ∷ []) in
      let name : List ℕ = last_after last tag in
      let later : Open = open_after_reply name (reply (stepped step s (on_line line tokens)) (Tag tag) line) in
      rw (stepped-last s line tokens (Tag tag))
      (ap (with_messages M) (ih (stepped step s M) name later)
      ∙ going_on-with s (lines_past line Y) M (trace step reply foreign rules (stepped step s M) line name later Y) W)

  trace-append-brought : (s : S) (line : ℕ) (last : List ℕ) (c : ℕ) (Y W : List ℕ) (next : Brought Open)
      → ((t : S) (name : List ℕ) (later : Open) → trace step reply foreign rules t (line_past line c) name later (Y ++ W) ≡ going_on t (lines_past (line_past line c) Y) (trace step reply foreign rules t (line_past line c) name later Y) W)
      → trace_brought step reply foreign rules (λ t name later. trace step reply foreign rules t (line_past line c) name later (Y ++ W)) s line last c next
      ≡ going_on s (lines_past (line_past line c) Y) (trace_brought step reply foreign rules (λ t name later. trace step reply foreign rules t (line_past line c) name later Y) s line last c next) W
  unfolding trace_brought
  trace-append-brought s line last c Y W next ih =
      let M : List Message = on_line line (tokens_of_late next.settled) in
      ap (with_messages M) (trace-append-here (stepped step s M) (line_past line c) last c Y W next.here ih)
      ∙ going_on-with s (lines_past (line_past line c) Y) M
      (trace_here step reply foreign rules (λ t name later. trace step reply foreign rules t (line_past line c) name later Y) (stepped step s M) (line_past line c) last c next.here) W

  trace-append : (s : S) (line : ℕ) (last : List ℕ) (opened : Open) (Y W : List ℕ)
      → trace step reply foreign rules s line last opened (Y ++ W) ≡ going_on s (lines_past line Y) (trace step reply foreign rules s line last opened Y) W
  unfolding trace lines_past stepped
  trace-append s line last opened [] W = refl
  trace-append s line last opened (c ∷ Y) W =
      trace-append-brought s line last c Y W (brought_at rules (foreign s) opened c) (λ t name later. trace-append t (line_past line c) name later Y W)

  pub after-opened : (K : Start) (s : S) (X : List ℕ)
      → (start_beyond K s X).opened ≡ (trace step reply foreign rules s (line_after K.input []) K.last_start_tag K.opened (normalised K.input X)).opened
  after-opened K s X = (read-traces K s X).opened

  pub after-last : (K : Start) (s : S) (X : List ℕ)
      → (start_beyond K s X).last_start_tag ≡ (trace step reply foreign rules s (line_after K.input []) K.last_start_tag K.opened (normalised K.input X)).last_start_tag
  after-last K s X = (read-traces K s X).last_start_tag

  -- forgetting: what a text tells is what its first part tells, then what the rest tells from the start after that

  abbrev pub state_beyond : Start → S → List ℕ → S
  state_beyond K s X = stepped step s (messages (told step reply foreign rules K s X))

  trace-after : (K : Start) (s : S) (X Z : List ℕ)
      → trace step reply foreign rules s (line_after K.input []) K.last_start_tag K.opened (normalised K.input (X ++ Z))
      ≡ with_messages (messages (told step reply foreign rules K s X))
      (trace step reply foreign rules (state_beyond K s X) (line_after (input_after K.input X) []) (start_beyond K s X).last_start_tag (start_beyond K s X).opened (normalised (input_after K.input X) Z))
  trace-after K s X Z =
      rw (normalised-append K.input X Z, trace-append s (line_after K.input []) K.last_start_tag K.opened (normalised K.input X) (normalised (input_after K.input X) Z), told-trace K s X, input_after-line_none K.input X, after-opened K s X, after-last K s X) refl

  pub told-append : (K : Start) (s : S) (X Z : List ℕ)
      → messages (told step reply foreign rules K s (X ++ Z))
      ≡ messages (told step reply foreign rules K s X) ++ messages (told step reply foreign rules (start_beyond K s X) (state_beyond K s X) Z)
  told-append K s X Z =
      told-trace K s (X ++ Z)
      ∙ ap (λ (t : Trace). t.messages) (trace-after K s X Z)
      ∙ ap (λ M. messages (told step reply foreign rules K s X) ++ M) (sym (told-trace (start_beyond K s X) (state_beyond K s X) Z))

  opened-append : (K : Start) (s : S) (X Z : List ℕ)
      → (start_beyond K s (X ++ Z)).opened ≡ (start_beyond (start_beyond K s X) (state_beyond K s X) Z).opened
  opened-append K s X Z =
      after-opened K s (X ++ Z)
      ∙ ap (λ (t : Trace). t.opened) (trace-after K s X Z)
      ∙ sym (after-opened (start_beyond K s X) (state_beyond K s X) Z)

  last-append : (K : Start) (s : S) (X Z : List ℕ)
      → (start_beyond K s (X ++ Z)).last_start_tag ≡ (start_beyond (start_beyond K s X) (state_beyond K s X) Z).last_start_tag
  last-append K s X Z =
      after-last K s (X ++ Z)
      ∙ ap (λ (t : Trace). t.last_start_tag) (trace-after K s X Z)
      ∙ sym (after-last (start_beyond K s X) (state_beyond K s X) Z)

  -- the start after two parts is the start after the second, from the start after the first
  pub after-append : (K : Start) (s : S) (X Z : List ℕ) → start_beyond K s (X ++ Z) ≡ start_beyond (start_beyond K s X) (state_beyond K s X) Z
  after-append K s X Z =
      rw (opened-append K s X Z, last-append K s X Z, input_after-append K.input X Z) refl

  -- no character

  pub told-nil : (K : Start) (s : S) → messages (told step reply foreign rules K s []) ≡ []
  unfolding normalised without_dropped_first with_line_feeds trace
  told-nil K s = rw (told-trace K s []) refl

  pub after-nil : (K : Start) (s : S) → start_beyond K s [] ≡ K
  unfolding input_after normalised without_dropped_first with_line_feeds trace
  after-nil K s = rw (after-opened K s [], after-last K s []) refl

  -- one character further: one that is dropped tells nothing

  pub told-none : (K : Start) (s : S) (c : ℕ) → normalised K.input (c ∷ []) ≡ [] → messages (told step reply foreign rules K s (c ∷ [])) ≡ []
  unfolding trace
  told-none K s c e = rw (told-trace K s (c ∷ []), e) refl

  pub after-none : (K : Start) (s : S) (c : ℕ) → normalised K.input (c ∷ []) ≡ []
      → start_beyond K s (c ∷ []) ≡ record { opened = K.opened; last_start_tag = K.last_start_tag; input = input_after K.input (c ∷ []) }
  unfolding trace
  after-none K s c e = rw (after-opened K s (c ∷ []), after-last K s (c ∷ []), e) refl

  -- what is sent at the character that is read for c

  trace_here-one : (s : S) (line : ℕ) (last : List ℕ) (d : ℕ) (h : Here Open)
      → trace_here step reply foreign rules (λ t name later. record { messages = []; opened = later; last_start_tag = name }) s line last d h
      ≡ record { messages = messages_here step reply rules line d h; opened = opened_here step reply rules s line last d h; last_start_tag = last_here last h }
  unfolding trace_here messages_here opened_here last_here
  trace_here-one s line last d (Tells told later) = rw (append-nil (on_line line (bad_character_error rules.exact d ++ told))) refl
  trace_here-one s line last d (TellsTag told tag) = rw (append-nil (on_line line ((bad_character_error rules.exact d ++ told) ++ Tag tag ∷ []))) refl

  -- the state of the sink in which the character is sent
  abbrev pub state_here : Start → S → ℕ → S
  state_here K s d = stepped step s (on_line (line_after K.input []) (tokens_of_late (brought_at rules (foreign s) K.opened d).settled))

  -- the trace of one character is one step of the machine
  trace-one : (K : Start) (s : S) (c d : ℕ) → normalised K.input (c ∷ []) ≡ d ∷ []
      → trace step reply foreign rules s (line_after K.input []) K.last_start_tag K.opened (normalised K.input (c ∷ []))
      ≡ record {
        messages = on_line (line_after K.input []) (tokens_of_late (brought_at rules (foreign s) K.opened d).settled) ++ messages_here step reply rules (input_after K.input (c ∷ [])).line d (brought_at rules (foreign s) K.opened d).here;
        opened = opened_here step reply rules (state_here K s d) (input_after K.input (c ∷ [])).line K.last_start_tag d (brought_at rules (foreign s) K.opened d).here;
        last_start_tag = last_here K.last_start_tag (brought_at rules (foreign s) K.opened d).here;
      }
  unfolding trace trace_brought
  trace-one K s c d e =
      let line : line_past (line_after K.input []) d ≡ (input_after K.input (c ∷ [])).line = input_after-line_one K.input c d e in
      rw (e, line) (ap (with_messages (on_line (line_after K.input []) (tokens_of_late (brought_at rules (foreign s) K.opened d).settled)))
      (trace_here-one (state_here K s d) (input_after K.input (c ∷ [])).line K.last_start_tag d (brought_at rules (foreign s) K.opened d).here))

  pub told-one : (K : Start) (s : S) (c d : ℕ) → normalised K.input (c ∷ []) ≡ d ∷ []
      → messages (told step reply foreign rules K s (c ∷ []))
      ≡ on_line (line_after K.input []) (tokens_of_late (brought_at rules (foreign s) K.opened d).settled) ++ messages_here step reply rules (input_after K.input (c ∷ [])).line d (brought_at rules (foreign s) K.opened d).here
  told-one K s c d e = told-trace K s (c ∷ []) ∙ ap (λ (t : Trace). t.messages) (trace-one K s c d e)

  pub after-one : (K : Start) (s : S) (c d : ℕ) → normalised K.input (c ∷ []) ≡ d ∷ []
      → start_beyond K s (c ∷ []) ≡ record {
        opened = opened_here step reply rules (state_here K s d) (input_after K.input (c ∷ [])).line K.last_start_tag d (brought_at rules (foreign s) K.opened d).here;
        last_start_tag = last_here K.last_start_tag (brought_at rules (foreign s) K.opened d).here;
        input = input_after K.input (c ∷ []);
      }
  after-one K s c d e = rw (after-opened K s (c ∷ []), after-last K s (c ∷ []), trace-one K s c d e) refl
