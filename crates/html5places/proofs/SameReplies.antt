-- Two sinks that reply alike, whatever their states are, read a text alike.
use Rattle.std.proofs.Common.{◌≡◌, ℕ, Bool, List, [], ◌∷◌, ◌++◌, length, refl, ap, sym, ◌∙◌}
use Rattle.std.specs.Prelude.{take_while}
use Rattle.html5ever_interface.specs.Sink.{Means, Message, stepped, on_line}
use Rattle.html5ever_interface.specs.Token.{Told}
use Rattle.html5ever_interface.specs.Token.Told.{Tag}
use Rattle.html5reading.specs.Cutting.{rest_of}
use Rattle.html5reading.specs.ErrorText.{bad_character_error}
use Rattle.html5reading.specs.NormalisedText.{normalised, line_after, input_after}
use Rattle.html5reading.specs.Reading.{Brought, Event, Here, Read, all_messages, brought, end_events, events_at, is_character, last_after, late_events, messages, messages_so_far, open_after_reply, read, read_from, read_here, reading, start_after, told, with_events}
use Rattle.html5reading.specs.Reading.Here.{Tells, TellsTag}
use Rattle.html5reading.specs.Reading.TextPlace.{Character}
use Rattle.html5reading.specs.Slice.{Slice, cut_off, tokens_of_late}
use Rattle.html5reading.specs.Start.{Start, Rules}

module _ {X Y S T H : Type 0} (means : Means X S H) (other : Means Y T H)
    (replies : (s : S) (t : T) (told : Told) (line : ℕ) → means.reply s told line ≡ other.reply t told line)
    (asks : (s : S) (t : T) → means.foreign s ≡ other.foreign t) where
  -- what is sent at a character and after it, if the rest is the same
  here-same : (rules : Rules) (K : Start) (rest : S → List ℕ → Slice → Read) (rest_of_other : T → List ℕ → Slice → Read)
      → ((s : S) (t : T) (name : List ℕ) (later : Slice) → rest s name later ≡ rest_of_other t name later)
      → (s : S) (t : T) (last before : List ℕ) (c : ℕ) (here : Here Slice)
      → read_here means.step means.reply means.foreign rules K rest cut_off s last before c here
      ≡ read_here other.step other.reply other.foreign rules K rest_of_other cut_off t last before c here
  here-same rules K rest rest_of_other later s t last before c (Tells told goes_on) =
      let tokens : List Told = bad_character_error rules.exact c ++ told in
      let M : List Message = on_line (line_after K.input (before ++ c ∷ [])) tokens in
      ap (with_events (events_at K.input before c tokens)) (later (stepped means.step s M) (stepped other.step t M) last goes_on)
  here-same rules K rest rest_of_other later s t last before c (TellsTag told tag) =
      let tokens : List Told = bad_character_error rules.exact c ++ told in
      let line : ℕ = line_after K.input (before ++ c ∷ []) in
      let M : List Message = on_line line tokens in
      let u : S = stepped means.step s M in
      let v : T = stepped other.step t M in
      let name : List ℕ = last_after last tag in
      ap (with_events (events_at K.input before c (tokens ++ Tag tag ∷ [])))
      (later (means.step u (Tag tag) line) (other.step v (Tag tag) line) name (cut_off (open_after_reply name (means.reply u (Tag tag) line)))
      ∙ ap (λ reply. rest_of_other (other.step v (Tag tag) line) name (cut_off (open_after_reply name reply))) (replies u v (Tag tag) line))

  -- what a character brings and what is read after it, by the answer about foreign content
  abbrev read_more : Rules → Start → S → List ℕ → List ℕ → Slice → ℕ → List ℕ → Bool → Read
  read_more rules K s last before slice c text foreign =
      let next : Brought Slice = brought rules foreign slice c text in
      with_events (late_events K.input before (Character (length before)) next.settled)
      (read_here means.step means.reply means.foreign rules K (λ t name rest. read_from means.step means.reply means.foreign rules K t name (before ++ c ∷ []) rest text) cut_off
      (stepped means.step s (on_line (line_after K.input before) (tokens_of_late next.settled))) last before c next.here)

  read-more : (rules : Rules) (K : Start) (s : S) (last before : List ℕ) (slice : Slice) (c : ℕ) (text : List ℕ)
      → read_from means.step means.reply means.foreign rules K s last before slice (c ∷ text) ≡ read_more rules K s last before slice c text (means.foreign s)
  unfolding read_from
  read-more rules K s last before slice c text = refl

  other-more : (rules : Rules) (K : Start) (t : T) (last before : List ℕ) (slice : Slice) (c : ℕ) (text : List ℕ)
      → read_from other.step other.reply other.foreign rules K t last before slice (c ∷ text)
      ≡ (let next : Brought Slice = brought rules (other.foreign t) slice c text in
      with_events (late_events K.input before (Character (length before)) next.settled)
      (read_here other.step other.reply other.foreign rules K (λ v name rest. read_from other.step other.reply other.foreign rules K v name (before ++ c ∷ []) rest text) cut_off
      (stepped other.step t (on_line (line_after K.input before) (tokens_of_late next.settled))) last before c next.here))
  unfolding read_from
  other-more rules K t last before slice c text = refl

  read-none : (rules : Rules) (K : Start) (s : S) (t : T) (last before : List ℕ) (slice : Slice)
      → read_from means.step means.reply means.foreign rules K s last before slice [] ≡ read_from other.step other.reply other.foreign rules K t last before slice []
  unfolding read_from
  read-none rules K s t last before slice = refl

  read_from-same : (rules : Rules) (K : Start) (s : S) (t : T) (last before : List ℕ) (slice : Slice) (text : List ℕ)
      → read_from means.step means.reply means.foreign rules K s last before slice text ≡ read_from other.step other.reply other.foreign rules K t last before slice text
  read_from-same rules K s t last before slice [] = read-none rules K s t last before slice
  read_from-same rules K s t last before slice (c ∷ text) =
      let next : Brought Slice = brought rules (other.foreign t) slice c text in
      let M : List Message = on_line (line_after K.input before) (tokens_of_late next.settled) in
      read-more rules K s last before slice c text
      ∙ ap (read_more rules K s last before slice c text) (asks s t)
      ∙ ap (with_events (late_events K.input before (Character (length before)) next.settled))
      (here-same rules K
      (λ u name later. read_from means.step means.reply means.foreign rules K u name (before ++ c ∷ []) later text)
      (λ v name later. read_from other.step other.reply other.foreign rules K v name (before ++ c ∷ []) later text)
      (λ u v name later. read_from-same rules K u v name (before ++ c ∷ []) later text)
      (stepped means.step s M) (stepped other.step t M) last before c next.here)
      ∙ sym (other-more rules K t last before slice c text)

  read-same : (rules : Rules) (K : Start) (s : S) (t : T) (text : List ℕ)
      → read means.step means.reply means.foreign rules K s text ≡ read other.step other.reply other.foreign rules K t text
  unfolding read
  read-same rules K s t text =
      read_from-same rules K s t K.last_start_tag [] (rest_of rules K.opened (normalised K.input text)) (normalised K.input text)

  reading-same : (rules : Rules) (K : Start) (s : S) (t : T) (text : List ℕ)
      → reading means.step means.reply means.foreign rules K s text ≡ reading other.step other.reply other.foreign rules K t text
  unfolding reading end_events
  reading-same rules K s t text =
      ap (λ (r : Read). r.events ++ end_events other.step other.reply other.foreign rules K r.opened (normalised K.input text)) (read-same rules K s t text)

  -- the whole reading of a text is the same
  pub all-same : (rules : Rules) (K : Start) (s : S) (t : T) (text : List ℕ) → all_messages means rules K s text ≡ all_messages other rules K t text
  all-same rules K s t text = ap messages (reading-same rules K s t text)

  -- what its characters decide, too
  pub so_far-same : (rules : Rules) (K : Start) (s : S) (t : T) (text : List ℕ) → messages_so_far means rules K s text ≡ messages_so_far other rules K t text
  unfolding told
  so_far-same rules K s t text = ap (λ E. messages (take_while (λ (e : Event). is_character e.decided_by) E)) (reading-same rules K s t text)

  -- the rest is read from the same start
  pub start-same : (rules : Rules) (K : Start) (s : S) (t : T) (text : List ℕ) → start_after means rules K s text ≡ start_after other rules K t text
  start-same rules K s t text =
      ap (λ (r : Read). record { opened = r.opened; last_start_tag = r.last_start_tag; input = input_after K.input text }) (read-same rules K s t text)
