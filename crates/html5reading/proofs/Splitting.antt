-- What the sink is sent of a text is a prefix of the reading of that text and more. It is all before the first event that a
-- later character decides, or the end.
use Rattle.std.proofs.Common.{◌≡◌, ℕ, ◌≤◌, ◌+◌, suc, Bool, true, false, None, Some, List, [], ◌∷◌, ◌++◌, drop, refl, ap, sym, ◌∙◌, subst, length, length-append, arith}
use Rattle.std.specs.Prelude.{codes, ◌&&◌, map, take_while, if◌then◌else◌, ◌-◌}
use Rattle.std.proofs.lemmas.Bool.{le-leb, lt-leb, false≢true}
use Rattle.std.proofs.lemmas.List.{append-nil, append_assoc, map-append}
use Rattle.html5ever_interface.proofs.Steppings.{stepped-append}
use Rattle.html5ever_interface.specs.Sink.{Message, stepped, on_line}
use Rattle.std.specs.Str.{bytes_eq}
use Rattle.html5ever_interface.specs.Token.{Told, Reply, DoctypeOf}
use Rattle.html5ever_interface.specs.declared.states.DoctypeIdKind.TheVariants.{Public, System}
use Rattle.html5ever_interface.specs.Token.Told.{Tag}
use Rattle.html5reading.specs.EndOfInput.{late_at_end_of, open_at_end_of, told_at_end_of}
use Rattle.html5reading.specs.ErrorText.{bad_character_error}
use Rattle.html5reading.specs.NormalisedText.{normalised, line_after, input_after}
use Rattle.html5reading.specs.Reading.{Event, TextPlace, Here, Brought, Read, with_events, events_at, late_event, late_events, read_here, read_from, read, end_events, reading, told, messages, is_among, last_after, open_after_reply}
use Rattle.html5reading.specs.Reading.TextPlace.{Character, EndOfInput}
use Rattle.html5reading.specs.Reading.Here.{Tells, TellsTag}
use Rattle.html5reading.specs.Slice.{Slice, Late, cut_off, tokens_of_late}
use Rattle.html5reading.specs.Cutting.{rest_of}
use Rattle.html5reading.specs.Characters.{lower_case}
use Rattle.html5reading.specs.Comment.{declaration_error, begins_keyword, begins_cdata, cdata_keyword}
use Rattle.html5reading.specs.Doctype.{keyword_error, is_keyword, begins_doctype_keyword, with_quirks}
use Rattle.html5reading.specs.Reference.{Found, in_value, reference, is_undecided, ends_number, opened_after, text_in, told_of, held_text, late_tokens}
use Rattle.html5reading.specs.Start.{Input, Start, Stand, Open, Rules}
use Rattle.html5reading.specs.Start.Stand.{InText, InAttribute}
use Rattle.html5reading.specs.Start.Open.{InReference, InDeclaration, InDoctypeKeyword}
use Rattle.html5reading.specs.Machine.{step_at, brought_at, reference_step, declaration_step, declaration_answer_step, doctype_keyword_step, bogus_comment_step, skipped_step}
use Rattle.html5reading.proofs.Slices.{going, rest_of-brought_at}
use Rattle.html5reading.proofs.InputLemmas.{normalised-append}
use Rattle.html5reading.proofs.ReadingLemmas.{take_while-cons, take_while-map, told-events, held_text-in_value}
use Rattle.html5reading.proofs.Traces.{messages-append, messages-map, messages-late, rest_of-nil, rest_of-reply}

-- ---- a text that is read in two parts

module _ {S H : Type 0} (step : S → Told → ℕ → S) (reply : S → Told → ℕ → Reply H) (foreign : S → Bool) (rules : Rules) (K : Start) where
  -- the whole is a part and then what the tail reads, in the sink's state after the part
  abbrev Splits : S → Read → Read → (S → List ℕ → Open → Read) → Type 0
  Splits s whole part tail = whole ≡ with_events part.events (tail (stepped step s (messages part.events)) part.last_start_tag part.opened)

  -- events in front of the whole and of a part: the whole is still the part and the tail
  splits-with : (s : S) (E : List Event) (M : List Message) (whole part : Read) (tail : S → List ℕ → Open → Read) → messages E ≡ M
      → Splits (stepped step s M) whole part tail → Splits s (with_events E whole) (with_events E part) tail
  splits-with s E M whole part tail e h =
      let rest : S → Read = λ t. tail t part.last_start_tag part.opened in
      let state : stepped step (stepped step s M) (messages part.events) ≡ stepped step s (messages (E ++ part.events)) =
      ap (λ m. stepped step (stepped step s m) (messages part.events)) (sym e)
      ∙ sym (stepped-append step s (messages E) (messages part.events))
      ∙ ap (stepped step s) (sym (messages-append E part.events)) in
      ap (with_events E) (h ∙ ap (λ t. with_events part.events (rest t)) state)
      ∙ ap (λ l. record { events = l; opened = (rest (stepped step s (messages (E ++ part.events)))).opened; last_start_tag = (rest (stepped step s (messages (E ++ part.events)))).last_start_tag })
      (sym (append_assoc E part.events (rest (stepped step s (messages (E ++ part.events)))).events))

  messages-here : (before : List ℕ) (c : ℕ) (tokens : List Told) → messages (events_at K.input before c tokens) ≡ on_line (line_after K.input (before ++ c ∷ [])) tokens
  unfolding events_at
  messages-here before c tokens = messages-map _ _ (λ t. refl) tokens

  -- the reading of the text after c, and of the rest of it
  abbrev from : List ℕ → List ℕ → S → List ℕ → Open → Read
  from before text t name opened = read_from step reply foreign rules K t name before (rest_of rules opened text) text

  -- one character in front of the whole and of a part
  splits-here : (s : S) (last before : List ℕ) (c : ℕ) (A B : List ℕ) (tail : S → List ℕ → Open → Read) (h : Here Open)
      → ((t : S) (name : List ℕ) (opened : Open) → Splits t (from (before ++ c ∷ []) (A ++ B) t name opened) (from (before ++ c ∷ []) A t name opened) tail)
      → Splits s
      (read_here step reply foreign rules K (λ t name rest. read_from step reply foreign rules K t name (before ++ c ∷ []) rest (A ++ B)) cut_off s last before c (going (λ opened. rest_of rules opened (A ++ B)) h))
      (read_here step reply foreign rules K (λ t name rest. read_from step reply foreign rules K t name (before ++ c ∷ []) rest A) cut_off s last before c (going (λ opened. rest_of rules opened A) h))
      tail
  unfolding stepped
  splits-here s last before c A B tail (Tells here opened) ih =
      let tokens : List Told = bad_character_error rules.exact c ++ here in
      splits-with s (events_at K.input before c tokens) (on_line (line_after K.input (before ++ c ∷ [])) tokens) _ _ tail (messages-here before c tokens) (ih _ last opened)
  splits-here s last before c A B tail (TellsTag here tag) ih =
      let tokens : List Told = bad_character_error rules.exact c ++ here in
      let line : ℕ = line_after K.input (before ++ c ∷ []) in
      let t : S = stepped step s (on_line line tokens) in
      let name : List ℕ = last_after last tag in
      let state : step t (Tag tag) line ≡ stepped step s (on_line line (tokens ++ Tag tag ∷ [])) =
      sym (ap (stepped step s) (map-append (λ (token : Told). record { token = token; line = line }) tokens (Tag tag ∷ [])) ∙ stepped-append step s (on_line line tokens) (on_line line (Tag tag ∷ []))) in
      let u : S = step t (Tag tag) line in
      let M : List Message = on_line line (tokens ++ Tag tag ∷ []) in
      let afterwards : Open = open_after_reply name (reply t (Tag tag) line) in
      let at : Slice → List ℕ → Read = λ slice text. read_from step reply foreign rules K u name (before ++ c ∷ []) slice text in
      splits-with s (events_at K.input before c (tokens ++ Tag tag ∷ [])) M _ _ tail (messages-here before c (tokens ++ Tag tag ∷ []))
      (subst (λ x. Splits (stepped step s M) (at x (A ++ B)) (at (cut_off afterwards) A) tail) (sym (rest_of-reply rules name (reply t (Tag tag) line) (A ++ B)))
      (subst (λ x. Splits (stepped step s M) (at (rest_of rules afterwards (A ++ B)) (A ++ B)) (at x A) tail) (sym (rest_of-reply rules name (reply t (Tag tag) line) A))
      (subst (λ v. Splits v (from (before ++ c ∷ []) (A ++ B) u name afterwards) (from (before ++ c ∷ []) A u name afterwards) tail) state (ih u name afterwards))))

  pub splits : (s : S) (last before : List ℕ) (opened : Open) (A B : List ℕ)
      → Splits s (from before (A ++ B) s last opened) (from before A s last opened) (from (before ++ A) B)
  unfolding read_from stepped
  splits s last before opened [] B = rw (rest_of-nil rules opened, append-nil before) refl
  splits s last before opened (c ∷ A) B =
      rw (rest_of-brought_at rules (foreign s) c (A ++ B) opened, rest_of-brought_at rules (foreign s) c A opened)
      (splits-with s _ _ _ _ (from (before ++ c ∷ A) B) (messages-late step reply foreign rules K before (Character (length before)) (brought_at rules (foreign s) opened c).settled)
      (splits-here _ last before c A B (from (before ++ c ∷ A) B) (brought_at rules (foreign s) opened c).here
      (λ t name later. subst (λ l. Splits t (from (before ++ c ∷ []) (A ++ B) t name later) (from (before ++ c ∷ []) A t name later) (from l B)) (append_assoc before (c ∷ []) A)
      (splits t name (before ++ c ∷ []) later A B))))

-- ---- which characters decide what is sent late

-- a held character is one that stands before the deciding one
abbrev IsSound : List Late → Type 0
IsSound [] = Unit {0}
IsSound (late ∷ more) = (late.is_held ≡ true → 1 ≤ late.back) × IsSound more

-- what is sent late begins with what the deciding character decides
abbrev BeginsUnheld : List Late → Type 0
BeginsUnheld [] = Unit {0}
BeginsUnheld (late ∷ more) = late.is_held ≡ false

record IsDecided (late : List Late) : Type 0 where
  sound : IsSound late
  begins : BeginsUnheld late

sound-unheld : (back : ℕ) (tokens : List Told) (more : List Late) → IsSound more
    → IsSound (map (λ token. record { token = token; back = back; is_at = false; is_held = false }) tokens ++ more)
sound-unheld back [] more sound = sound
sound-unheld back (t ∷ tokens) more sound = (λ e. absurd (false≢true e), sound-unheld back tokens more sound)

sound-held : (back : ℕ) (tokens : List Told) (more : List Late) → IsSound more
    → IsSound (map (λ token. record { token = token; back = suc back; is_at = true; is_held = true }) tokens ++ more)
sound-held back [] more sound = sound
sound-held back (t ∷ tokens) more sound = (λ e. omega arith, sound-held back tokens more sound)

sound-held_text : (stand : Stand) (held : List ℕ) → IsSound (held_text stand held)
unfolding held_text
sound-held_text stand [] = tt
sound-held_text stand (c ∷ held) = sound-held (suc (length held)) (text_in stand (c ∷ [])) (held_text stand held) (sound-held_text stand held)

begins-text : (back : ℕ) (errors : List Told) (t : Told) (ts : List Told) (later : List Late)
    → BeginsUnheld (map (λ token. record { token = token; back = back; is_at = false; is_held = false }) (errors ++ t ∷ ts) ++ later)
begins-text back [] t ts later = refl
begins-text back (x ∷ errors) t ts later = refl

begins-errors : (back : ℕ) (errors : List Told) → BeginsUnheld (map (λ token. record { token = token; back = back; is_at = false; is_held = false }) (errors ++ []) ++ [])
begins-errors back [] = tt
begins-errors back (x ∷ errors) = refl

decided-late_tokens : (stand : Stand) (found : Found) (held : List ℕ) → IsDecided (late_tokens stand found held)
decided-late_tokens (InText mode) found held = record {
  sound = sound-unheld _ (told_of (InText mode) found) _ (sound-held_text (InText mode) (drop found.taken held));
  begins = begins-text _ found.errors _ _ _;
}
decided-late_tokens (InAttribute kind tag) found held = record {
  sound = sound-unheld _ (told_of (InAttribute kind tag) found) _ (sound-held_text (InAttribute kind tag) (drop found.taken held));
  begins = rw (held_text-in_value kind tag (drop found.taken held)) (begins-errors _ found.errors);
}

decided-nothing : IsDecided []
decided-nothing = record { sound = tt; begins = tt }

decided-one : (late : Late) → late.is_held ≡ false → IsDecided (late ∷ [])
decided-one late unheld = record { sound = (λ e. absurd (false≢true (sym unheld ∙ e)), tt); begins = unheld }

decided-keyword : (exact : Bool) (held : List ℕ) → IsDecided (keyword_error exact held)
unfolding keyword_error
decided-keyword exact [] = decided-nothing
decided-keyword exact (c ∷ held) = decided-one _ refl

record Settles (next : Brought Open) : Type 0 where
  late : IsDecided next.settled

settles-if : (test : Bool) (p q : Brought Open) → Settles p → Settles q → Settles (if test then p else q)
settles-if true p q f g = f
settles-if false p q f g = g

settles-late : (late : List Late) (here : Here Open) → IsDecided late → Settles (record { settled = late; here = here })
settles-late late here decided = record { late = decided }

settles-nothing : (here : Here Open) → Settles (record { settled = []; here = here })
settles-nothing here = record { late = decided-nothing }

settles-answer : (exact foreign : Bool) (held : List ℕ) (c : ℕ) → Settles (declaration_answer_step exact foreign held c)
unfolding declaration_answer_step
settles-answer exact foreign held c =
    settles-if (foreign && bytes_eq (held ++ c ∷ []) cdata_keyword) _ _ (settles-nothing _)
    (settles-if (foreign && begins_cdata (held ++ c ∷ [])) _ _ (settles-nothing _) (settles-late (declaration_error exact held) (bogus_comment_step exact held [] c) (decided-one _ refl)))

settles-declaration : (exact foreign : Bool) (held : List ℕ) (c : ℕ) → Settles (declaration_step exact foreign held c)
unfolding declaration_step
settles-declaration exact foreign held c =
    settles-if (bytes_eq (held ++ c ∷ []) (codes "--")) _ _ (settles-nothing _)
    (settles-if (bytes_eq (lower_case (held ++ c ∷ [])) (codes "doctype")) _ _ (settles-nothing _)
    (settles-if (begins_keyword (held ++ c ∷ [])) _ _ (settles-nothing _) (settles-answer exact foreign held c)))

settles-doctype_keyword : (exact : Bool) (held : List ℕ) (d : DoctypeOf) (c : ℕ) → Settles (doctype_keyword_step exact held d c)
unfolding doctype_keyword_step
settles-doctype_keyword exact held d c =
    settles-if (is_keyword Public (held ++ c ∷ [])) _ _ (settles-nothing _)
    (settles-if (is_keyword System (held ++ c ∷ [])) _ _ (settles-nothing _)
    (settles-if (begins_doctype_keyword (held ++ c ∷ [])) _ _ (settles-nothing _)
    (settles-late (keyword_error exact held) (skipped_step exact [] (with_quirks d) c) (decided-keyword exact held))))

settles-reference : (rules : Rules) (stand : Stand) (held : List ℕ) (c : ℕ) → Settles (reference_step rules stand held c)
unfolding reference_step
settles-reference rules stand held c =
    let found : Found = reference rules (in_value stand) held (Some c) in
    settles-if (is_undecided rules.references (held ++ c ∷ [])) _ _ (settles-nothing _)
    (settles-if (ends_number held c) _ _
    (settles-late (late_tokens stand found held) (Tells [] (opened_after stand found held)) (decided-late_tokens stand found held))
    (settles-late (late_tokens stand found held) (step_at rules.exact (opened_after stand found held) c) (decided-late_tokens stand found held)))

settles-brought : (rules : Rules) (foreign : Bool) (opened : Open) (c : ℕ) → Settles (brought_at rules foreign opened c)
unfolding brought_at
settles-brought rules foreign (InReference stand held) c = settles-reference rules stand held c
settles-brought rules foreign (InDeclaration held) c = settles-declaration rules.exact foreign held c
settles-brought rules foreign (InDoctypeKeyword held d) c = settles-doctype_keyword rules.exact held d c
settles-brought rules foreign opened c = settles-nothing _

decided-at_end : (rules : Rules) (opened : Open) → IsDecided (late_at_end_of rules opened)
unfolding late_at_end_of
decided-at_end rules (InReference stand held) = decided-late_tokens stand (reference rules (in_value stand) held None) held
decided-at_end rules (InDeclaration held) = decided-one _ refl
decided-at_end rules (InDoctypeKeyword held d) = decided-keyword rules.exact held
decided-at_end rules opened = decided-nothing

-- ---- events before a place

-- those that the first n characters decide
abbrev among : ℕ → List Event → List Event
among n E = take_while (λ (e : Event). is_among n e.decided_by) E

module _ (I : Input) (n : ℕ) where
  decided_among : (before : List ℕ) (l : Late) (held : Bool) → l.is_held ≡ held → suc (length before) ≤ n → (l.is_held ≡ true → 1 ≤ l.back)
      → is_among n (late_event I before (Character (length before)) l).decided_by ≡ true
  decided_among before l true is within sound = rw (is, le-leb (suc (suc (length before) - l.back)) n (omega (arith, within, sound is))) refl
  decided_among before l false is within sound = rw (is, le-leb (suc (length before)) n within) refl

  -- what the character after `before` decides is decided by one of the first n characters, where these reach after it
  among-late : (before : List ℕ) (late : List Late) (E : List Event) → suc (length before) ≤ n → IsSound late
      → among n (late_events I before (Character (length before)) late ++ E) ≡ late_events I before (Character (length before)) late ++ among n E
  unfolding late_events
  among-late before [] E within sound = refl
  among-late before (l ∷ late) E within sound =
      take_while-cons (λ (e : Event). is_among n e.decided_by) _ _ (decided_among before l l.is_held refl within sound.0)
      ∙ ap (λ m. late_event I before (Character (length before)) l ∷ m) (among-late before late E within sound.1)

  among-at : (before : List ℕ) (c : ℕ) (tokens : List Told) (E : List Event) → suc (length before) ≤ n
      → among n (events_at I before c tokens ++ E) ≡ events_at I before c tokens ++ among n E
  unfolding events_at
  among-at before c tokens E within =
      take_while-map (λ (e : Event). is_among n e.decided_by) _ (λ t. le-leb (suc (length before)) n within) tokens E

  -- none is where they don't
  beyond-late : (before : List ℕ) (place : TextPlace) (late : List Late) (E : List Event) → is_among n place ≡ false → BeginsUnheld late
      → among n E ≡ [] → among n (late_events I before place late ++ E) ≡ []
  unfolding late_events
  beyond-late before place [] E beyond begins none = none
  beyond-late before place (l ∷ late) E beyond begins none = rw (begins, beyond) refl

  beyond-at : (before : List ℕ) (c : ℕ) (tokens : List Told) (E : List Event) → n ≤ length before → among n E ≡ []
      → among n (events_at I before c tokens ++ E) ≡ []
  unfolding events_at
  beyond-at before c [] E past none = none
  beyond-at before c (t ∷ tokens) E past none = rw (lt-leb (suc (length before)) n (omega (arith, past))) refl

  at-among : (before : List ℕ) (c : ℕ) (tokens : List Told) (F E : List Event) → suc (length before) ≤ n → among n (F ++ E) ≡ F ++ among n E
      → among n ((events_at I before c tokens ++ F) ++ E) ≡ (events_at I before c tokens ++ F) ++ among n E
  at-among before c tokens F E within ih =
      rw (append_assoc (events_at I before c tokens) F E)
      (among-at before c tokens (F ++ E) within ∙ ap (λ l. events_at I before c tokens ++ l) ih ∙ sym (append_assoc (events_at I before c tokens) F (among n E)))

  beyond-end : (tokens : List Told) (line : ℕ) → among n (map (λ token. record { message = record { token = token; line = line }; stands = EndOfInput; decided_by = EndOfInput }) tokens) ≡ []
  beyond-end [] line = refl
  beyond-end (t ∷ tokens) line = refl

module _ {S H : Type 0} (step : S → Told → ℕ → S) (reply : S → Told → ℕ → Reply H) (foreign : S → Bool) (rules : Rules) (K : Start) (n : ℕ) where
  abbrev reads : List ℕ → List ℕ → S → List ℕ → Slice → Read
  reads before text t name slice = read_from step reply foreign rules K t name before slice text

  -- what the machine does at c, as the reading goes on with it
  abbrev reads_here : S → List ℕ → List ℕ → ℕ → List ℕ → Here Open → Read
  reads_here s last before c A h = read_here step reply foreign rules K (reads (before ++ c ∷ []) A) cut_off s last before c (going (λ opened. rest_of rules opened A) h)

  -- the characters of a text decide its events

  abbrev IsAmong : List ℕ → List ℕ → List Event → Type 0
  IsAmong before A E = (t : S) (name : List ℕ) (opened : Open) (slice : Slice) → slice ≡ rest_of rules opened A
      → among n ((reads before A t name slice).events ++ E) ≡ (reads before A t name slice).events ++ among n E

  among-here : (s : S) (last before : List ℕ) (c : ℕ) (A : List ℕ) (E : List Event) (h : Here Open) → suc (length before) ≤ n
      → IsAmong (before ++ c ∷ []) A E
      → among n ((reads_here s last before c A h).events ++ E) ≡ (reads_here s last before c A h).events ++ among n E
  among-here s last before c A E (Tells here opened) within ih =
      at-among K.input n before c (bad_character_error rules.exact c ++ here) _ E within (ih _ last opened _ refl)
  among-here s last before c A E (TellsTag here tag) within ih =
      at-among K.input n before c ((bad_character_error rules.exact c ++ here) ++ Tag tag ∷ []) _ E within (ih _ _ _ _ (rest_of-reply rules (last_after last tag) _ A))

  -- the first n characters decide the events of a text that lies among them
  read-among : (before A : List ℕ) (E : List Event) → length before + length A ≤ n → IsAmong before A E
  unfolding read_from
  read-among before [] E within s last opened slice is = refl
  read-among before (c ∷ A) E within s last opened slice is =
      let next : Brought Open = brought_at rules (foreign s) opened c in
      let late : List Event = late_events K.input before (Character (length before)) next.settled in
      let here : Read = reads_here (stepped step s (on_line (line_after K.input before) (tokens_of_late next.settled))) last before c A next.here in
      let past : suc (length before) ≤ n = omega (arith, within) in
      rw (is, rest_of-brought_at rules (foreign s) c A opened, append_assoc late here.events E, append_assoc late here.events (among n E))
      (among-late K.input n before next.settled (here.events ++ E) past (settles-brought rules (foreign s) opened c).late.sound
      ∙ ap (λ l. late ++ l) (among-here _ last before c A E next.here past (read-among (before ++ c ∷ []) A E (rw (length-append before (c ∷ [])) (omega (arith, within))))))

  -- the characters after the first n decide none of the events that these decide

  abbrev IsBeyond : List ℕ → List ℕ → List Event → Type 0
  IsBeyond before B E = (t : S) (name : List ℕ) (opened : Open) (slice : Slice) → slice ≡ rest_of rules opened B
      → among n ((reads before B t name slice).events ++ E) ≡ []

  beyond-here : (s : S) (last before : List ℕ) (c : ℕ) (B : List ℕ) (E : List Event) (h : Here Open) → n ≤ length before
      → IsBeyond (before ++ c ∷ []) B E → among n ((reads_here s last before c B h).events ++ E) ≡ []
  beyond-here s last before c B E (Tells here opened) past ih =
      let tokens : List Told = bad_character_error rules.exact c ++ here in
      rw (append_assoc (events_at K.input before c tokens) (reads (before ++ c ∷ []) B (stepped step s (on_line (line_after K.input (before ++ c ∷ [])) tokens)) last (rest_of rules opened B)).events E)
      (beyond-at K.input n before c tokens _ past (ih _ last opened _ refl))
  beyond-here s last before c B E (TellsTag here tag) past ih =
      let tokens : List Told = (bad_character_error rules.exact c ++ here) ++ Tag tag ∷ [] in
      rw (append_assoc (events_at K.input before c tokens) _ E)
      (beyond-at K.input n before c tokens _ past (ih _ _ _ _ (rest_of-reply rules (last_after last tag) _ B)))

  -- they decide no event of a text that comes after them
  read-beyond : (before B : List ℕ) (E : List Event) → n ≤ length before → among n E ≡ [] → IsBeyond before B E
  unfolding read_from
  read-beyond before [] E past none s last opened slice is = none
  read-beyond before (c ∷ B) E past none s last opened slice is =
      let next : Brought Open = brought_at rules (foreign s) opened c in
      let late : List Event = late_events K.input before (Character (length before)) next.settled in
      let here : Read = reads_here (stepped step s (on_line (line_after K.input before) (tokens_of_late next.settled))) last before c B next.here in
      rw (is, rest_of-brought_at rules (foreign s) c B opened, append_assoc late here.events E)
      (beyond-late K.input n before (Character (length before)) next.settled (here.events ++ E) (lt-leb (suc (length before)) n (omega (arith, past)))
      (settles-brought rules (foreign s) opened c).late.begins
      (beyond-here _ last before c B E next.here past (read-beyond (before ++ c ∷ []) B E (rw (length-append before (c ∷ [])) (omega (arith, past))) none)))

  end-beyond : (opened : Open) (Y : List ℕ) → among n (end_events step reply foreign rules K opened Y) ≡ []
  unfolding end_events
  end-beyond opened Y =
      beyond-late K.input n Y EndOfInput (late_at_end_of rules opened) _ refl (decided-at_end rules opened).begins
      (beyond-end K.input n (told_at_end_of rules.exact (open_at_end_of rules opened)) (line_after K.input Y))

module _ {S H : Type 0} (step : S → Told → ℕ → S) (reply : S → Told → ℕ → Reply H) (foreign : S → Bool) (rules : Rules) where
  -- what is sent of a text is all of the reading of it and more that its characters decide, before what other places decide
  pub told-within : (K : Start) (s : S) (text more : List ℕ)
      → told step reply foreign rules K s text
      ≡ take_while (λ e. is_among (length (normalised K.input text)) e.decided_by) (reading step reply foreign rules K s (text ++ more))
  unfolding reading read
  told-within K s text more =
      let Y : List ℕ = normalised K.input text in
      let Z : List ℕ = normalised (input_after K.input text) more in
      let part : Read = read step reply foreign rules K s text in
      let tail : Read = from step reply foreign rules K Y Z (stepped step s (messages part.events)) part.last_start_tag part.opened in
      let whole : read_from step reply foreign rules K s K.last_start_tag [] (rest_of rules K.opened (Y ++ Z)) (Y ++ Z) ≡ with_events part.events tail =
      splits step reply foreign rules K s K.last_start_tag [] K.opened Y Z in
      let E : List Event = end_events step reply foreign rules K tail.opened (Y ++ Z) in
      let n : ℕ = length Y in
      let beyond : among n (tail.events ++ E) ≡ [] =
      read-beyond step reply foreign rules K n Y Z E (omega arith) (end-beyond step reply foreign rules K n tail.opened (Y ++ Z)) _ part.last_start_tag part.opened _ refl in
      told-events step reply foreign rules K s text
      ∙ sym (rw (normalised-append K.input text more, whole, append_assoc part.events tail.events E)
      (read-among step reply foreign rules K n [] Y (tail.events ++ E) (omega arith) s K.last_start_tag K.opened _ refl
      ∙ ap (λ l. part.events ++ l) beyond
      ∙ append-nil part.events))
