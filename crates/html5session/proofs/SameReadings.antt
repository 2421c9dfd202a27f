-- How a text is read does not depend on a part of the sink's state that no step, no reply and no answer looks at.
--
-- `f` changes that part alone.
use Rattle.std.proofs.Common.{◌≡◌, ℕ, Bool, List, [], ◌∷◌, ◌++◌, length, drop, refl, ap, sym, ◌∙◌, subst}
use Rattle.std.specs.Prelude.{take_while, if◌then◌else◌}
use Rattle.html5ever.specs.Tokenizer.{Tokenizing, StandsAt}
use Rattle.html5ever_interface.specs.Sink.{Means, Message, stepped, on_line}
use Rattle.html5ever_interface.specs.Token.{Told, Reply}
use Rattle.html5ever_interface.specs.Token.Told.{Tag}
use Rattle.html5feed.specs.Feed.{feed, first_pause, pause_at, pauses, told_beyond, up_to_pause}
use Rattle.html5reading.specs.Cutting.{rest_of}
use Rattle.html5reading.specs.ErrorText.{bad_character_error}
use Rattle.html5reading.specs.NormalisedText.{normalised, line_after, input_after}
use Rattle.html5reading.specs.Reading.{Brought, Event, Here, Read, all_messages, brought, end_events, events_at, is_character, last_after, late_events, messages, messages_so_far, open_after_reply, read, read_from, read_here, reading, start_after, state_after, told, with_events}
use Rattle.html5reading.specs.Reading.Here.{Tells, TellsTag}
use Rattle.html5reading.specs.Reading.TextPlace.{Character}
use Rattle.html5reading.specs.Slice.{Slice, cut_off, tokens_of_late}
use Rattle.html5reading.specs.Start.{Start, Rules}
use Rattle.html5records.specs.Recording.{Recording, Recorded, recorded_means, recorded_step, taking, after_taking}

module _ {X S H : Type 0} (means : Means X S H) (f : S → S)
    (steps : (s : S) (t : Told) (line : ℕ) → means.step (f s) t line ≡ f (means.step s t line))
    (replies : (s : S) (t : Told) (line : ℕ) → means.reply (f s) t line ≡ means.reply s t line)
    (asks : (s : S) → means.foreign (f s) ≡ means.foreign s) where
  stepped-same : (s : S) (M : List Message) → stepped means.step (f s) M ≡ f (stepped means.step s M)
  unfolding stepped
  stepped-same s [] = refl
  stepped-same s (m ∷ M) = ap (λ t. stepped means.step t M) (steps s m.token m.line) ∙ stepped-same (means.step s m.token m.line) M

  -- what is sent at a character and after it, if the rest is the same
  here-same : (rules : Rules) (K : Start) (rest : S → List ℕ → Slice → Read) → ((t : S) (name : List ℕ) (later : Slice) → rest (f t) name later ≡ rest t name later)
      → (s : S) (last before : List ℕ) (c : ℕ) (here : Here Slice)
      → read_here means.step means.reply means.foreign rules K rest cut_off (f s) last before c here
      ≡ read_here means.step means.reply means.foreign rules K rest cut_off s last before c here
  here-same rules K rest later s last before c (Tells told goes_on) =
      let tokens : List Told = bad_character_error rules.exact c ++ told in
      let M : List Message = on_line (line_after K.input (before ++ c ∷ [])) tokens in
      ap (with_events (events_at K.input before c tokens)) (ap (λ t. rest t last goes_on) (stepped-same s M) ∙ later (stepped means.step s M) last goes_on)
  here-same rules K rest later s last before c (TellsTag told tag) =
      let tokens : List Told = bad_character_error rules.exact c ++ told in
      let line : ℕ = line_after K.input (before ++ c ∷ []) in
      let M : List Message = on_line line tokens in
      let t : S = stepped means.step s M in
      let name : List ℕ = last_after last tag in
      let goes_on : S → Reply H → Read = λ u reply. rest u name (cut_off (open_after_reply name reply)) in
      ap (with_events (events_at K.input before c (tokens ++ Tag tag ∷ [])))
      (ap (λ u. goes_on (means.step u (Tag tag) line) (means.reply u (Tag tag) line)) (stepped-same s M)
      ∙ ap (λ u. goes_on u (means.reply (f t) (Tag tag) line)) (steps t (Tag tag) line)
      ∙ later (means.step t (Tag tag) line) name (cut_off (open_after_reply name (means.reply (f t) (Tag tag) line)))
      ∙ ap (goes_on (means.step t (Tag tag) line)) (replies t (Tag tag) line))

  -- what a character brings and what is read after it, by the answer about foreign content
  abbrev read_more : Rules → Start → S → List ℕ → List ℕ → Slice → ℕ → List ℕ → Bool → Read
  read_more rules K s last before slice c text foreign =
      let next : Brought Slice = brought rules foreign slice c text in
      with_events (late_events K.input before (Character (length before)) next.settled)
      (read_here means.step means.reply means.foreign rules K (λ t name rest. read_from means.step means.reply means.foreign rules K t name (before ++ c ∷ []) rest text) cut_off
      (stepped means.step s (on_line (line_after K.input before) (tokens_of_late next.settled))) last before c next.here)

  read-more : (rules : Rules) (K : Start) (s : S) (last before : List ℕ) (slice : Slice) (c : ℕ) (text : List ℕ)
      → read_from means.step means.reply means.foreign rules K s last before slice (c ∷ text) ≡ read_more rules K s last before slice c text (means.foreign s)
  unfolding read_from
  read-more rules K s last before slice c text = refl

  read-none : (rules : Rules) (K : Start) (s : S) (last before : List ℕ) (slice : Slice)
      → read_from means.step means.reply means.foreign rules K (f s) last before slice [] ≡ read_from means.step means.reply means.foreign rules K s last before slice []
  unfolding read_from
  read-none rules K s last before slice = refl

  read_from-same : (rules : Rules) (K : Start) (s : S) (last before : List ℕ) (slice : Slice) (text : List ℕ)
      → read_from means.step means.reply means.foreign rules K (f s) last before slice text ≡ read_from means.step means.reply means.foreign rules K s last before slice text
  read_from-same rules K s last before slice [] = read-none rules K s last before slice
  read_from-same rules K s last before slice (c ∷ text) =
      let next : Brought Slice = brought rules (means.foreign s) slice c text in
      let M : List Message = on_line (line_after K.input before) (tokens_of_late next.settled) in
      let rest : S → List ℕ → Slice → Read = λ t name later. read_from means.step means.reply means.foreign rules K t name (before ++ c ∷ []) later text in
      read-more rules K (f s) last before slice c text
      ∙ ap (read_more rules K (f s) last before slice c text) (asks s)
      ∙ ap (with_events (late_events K.input before (Character (length before)) next.settled))
      (ap (λ t. read_here means.step means.reply means.foreign rules K rest cut_off t last before c next.here) (stepped-same s M)
      ∙ here-same rules K rest (λ t name later. read_from-same rules K t name (before ++ c ∷ []) later text) (stepped means.step s M) last before c next.here)
      ∙ sym (read-more rules K s last before slice c text)

  read-same : (rules : Rules) (K : Start) (s : S) (text : List ℕ)
      → read means.step means.reply means.foreign rules K (f s) text ≡ read means.step means.reply means.foreign rules K s text
  unfolding read
  read-same rules K s text =
      read_from-same rules K s K.last_start_tag [] (rest_of rules K.opened (normalised K.input text)) (normalised K.input text)

  reading-same : (rules : Rules) (K : Start) (s : S) (text : List ℕ)
      → reading means.step means.reply means.foreign rules K (f s) text ≡ reading means.step means.reply means.foreign rules K s text
  unfolding reading
  reading-same rules K s text =
      ap (λ (r : Read). r.events ++ end_events means.step means.reply means.foreign rules K r.opened (normalised K.input text)) (read-same rules K s text)

  -- the whole reading of a text is the same
  pub all-same : (rules : Rules) (K : Start) (s : S) (text : List ℕ) → all_messages means rules K (f s) text ≡ all_messages means rules K s text
  all-same rules K s text = ap messages (reading-same rules K s text)

  -- what its characters decide, too
  pub so_far-same : (rules : Rules) (K : Start) (s : S) (text : List ℕ) → messages_so_far means rules K (f s) text ≡ messages_so_far means rules K s text
  unfolding told
  so_far-same rules K s text = ap (λ E. messages (take_while (λ (e : Event). is_character e.decided_by) E)) (reading-same rules K s text)

  -- the state after those is the one that `f` makes
  pub state-same : (rules : Rules) (K : Start) (s : S) (text : List ℕ) → state_after means rules K (f s) text ≡ f (state_after means rules K s text)
  state-same rules K s text = ap (stepped means.step (f s)) (so_far-same rules K s text) ∙ stepped-same s (messages_so_far means rules K s text)

  -- the rest is read from the same start
  pub start-same : (rules : Rules) (K : Start) (s : S) (text : List ℕ) → start_after means rules K (f s) text ≡ start_after means rules K s text
  start-same rules K s text =
      ap (λ (r : Read). record { opened = r.opened; last_start_tag = r.last_start_tag; input = input_after K.input text }) (read-same rules K s text)

  -- a feed ends after the same tag

  first_pause-same : (s : S) (M : List Message) → first_pause means (f s) M ≡ first_pause means s M
  unfolding first_pause
  first_pause-same s [] = refl
  first_pause-same s (m ∷ M) =
      let pick : Reply H → Reply H → Reply H = λ reply rest. if pauses reply then reply else rest in
      ap (λ reply. pick reply (first_pause means (means.step (f s) m.token m.line) M)) (replies s m.token m.line)
      ∙ ap (pick (means.reply s m.token m.line)) (ap (λ t. first_pause means t M) (steps s m.token m.line) ∙ first_pause-same (means.step s m.token m.line) M)

  beyond-same : (rules : Rules) (K : Start) (s : S) (text more : List ℕ) → told_beyond means rules K (f s) text more ≡ told_beyond means rules K s text more
  beyond-same rules K s text more =
      ap (λ M. drop (length M) (messages_so_far means rules K (f s) (text ++ more))) (so_far-same rules K s text)
      ∙ ap (drop (length (messages_so_far means rules K s text))) (so_far-same rules K s (text ++ more))

  pause-same : (rules : Rules) (K : Start) (s : S) (text : List ℕ) (c : ℕ) → pause_at means rules K (f s) text c ≡ pause_at means rules K s text c
  pause-same rules K s text c =
      ap (first_pause means (state_after means rules K (f s) text)) (beyond-same rules K s text (c ∷ []))
      ∙ ap (λ t. first_pause means t (told_beyond means rules K s text (c ∷ []))) (state-same rules K s text)
      ∙ first_pause-same (state_after means rules K s text) (told_beyond means rules K s text (c ∷ []))

  pub feed-same : (rules : Rules) (K : Start) (s : S) (text queue : List ℕ) → feed means rules K (f s) text queue ≡ feed means rules K s text queue
  unfolding feed
  feed-same rules K s text [] = refl
  feed-same rules K s text (c ∷ queue) =
      ap (λ reply. up_to_pause reply c queue (feed means rules K (f s) (text ++ c ∷ []) queue)) (pause-same rules K s text c)
      ∙ ap (up_to_pause (pause_at means rules K s text c) c queue) (feed-same rules K s (text ++ c ∷ []) queue)

  -- a tokenizer with another sink stands where it stood
  pub StandsAt-same : (t : Tokenizing X) (x : X) (K : Start) (s : S) (text : List ℕ) → means.state x ≡ f (means.state t.sink)
      → StandsAt means t K s text → StandsAt means (record t { sink = x }) K (f s) text
  StandsAt-same t x K s text is stands = record {
    told = is ∙ ap f stands.told ∙ sym (state-same t.rules K s text);
    position = stands.position ∙ sym (start-same t.rules K s text);
    not_failed = stands.not_failed;
    not_ended = stands.not_ended;
  }

-- ---- bytes of records that are taken

taking-steps : (count : ℕ) (r : Recorded) (t : Told) (line : ℕ) → recorded_step (taking r count) t line ≡ taking (recorded_step r t line) count
unfolding recorded_step
taking-steps count r t line = refl

pub taking-told : (rules : Rules) (K : Start) (r : Recorded) (count : ℕ) (text : List ℕ)
    → messages_so_far recorded_means rules K (taking r count) text ≡ messages_so_far recorded_means rules K r text
taking-told rules K r count text = so_far-same recorded_means (λ q. taking q count) (taking-steps count) (λ q t line. refl) (λ q. refl) rules K r text

pub taking-whole : (rules : Rules) (K : Start) (r : Recorded) (count : ℕ) (text : List ℕ)
    → all_messages recorded_means rules K (taking r count) text ≡ all_messages recorded_means rules K r text
taking-whole rules K r count text = all-same recorded_means (λ q. taking q count) (taking-steps count) (λ q t line. refl) (λ q. refl) rules K r text

pub taking-state : (rules : Rules) (K : Start) (r : Recorded) (count : ℕ) (text : List ℕ)
    → state_after recorded_means rules K (taking r count) text ≡ taking (state_after recorded_means rules K r text) count
taking-state rules K r count text = state-same recorded_means (λ q. taking q count) (taking-steps count) (λ q t line. refl) (λ q. refl) rules K r text

pub taking-start : (rules : Rules) (K : Start) (r : Recorded) (count : ℕ) (text : List ℕ)
    → start_after recorded_means rules K (taking r count) text ≡ start_after recorded_means rules K r text
taking-start rules K r count text = start-same recorded_means (λ q. taking q count) (taking-steps count) (λ q t line. refl) (λ q. refl) rules K r text

pub taking-fed : (rules : Rules) (K : Start) (r : Recorded) (count : ℕ) (text queue : List ℕ)
    → feed recorded_means rules K (taking r count) text queue ≡ feed recorded_means rules K r text queue
taking-fed rules K r count text queue = feed-same recorded_means (λ q. taking q count) (taking-steps count) (λ q t line. refl) (λ q. refl) rules K r text queue

pub stands_on : (t u : Tokenizing Recording) (count : ℕ) → u ≡ record t { sink = after_taking t.sink count }
    → (K : Start) (r : Recorded) (text : List ℕ) → StandsAt recorded_means t K r text → StandsAt recorded_means u K (taking r count) text
stands_on t u count is K r text stands =
    subst (λ (w : Tokenizing Recording). StandsAt recorded_means w K (taking r count) text) (sym is)
    (StandsAt-same recorded_means (λ q. taking q count) (taking-steps count) (λ q t line. refl) (λ q. refl)
    t (after_taking t.sink count) K r text refl stands)
