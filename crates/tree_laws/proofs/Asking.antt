-- Whoever asks as the parser does is told the same reading.
use Rattle.std.proofs.Common.{◌≡◌, ℕ, Bool, List, [], ◌∷◌, ◌++◌, length, refl, ap, ◌∙◌}
use Rattle.html5ever_interface.specs.Sink.{Message, on_line, stepped}
use Rattle.html5ever_interface.specs.Token.{Reply, Told}
use Rattle.html5ever_interface.specs.Token.Told.{Tag}
use Rattle.html5reading.specs.Cutting.{rest_of}
use Rattle.html5reading.specs.ErrorText.{bad_character_error}
use Rattle.html5reading.specs.NormalisedText.{line_after, normalised}
use Rattle.html5reading.specs.Reading.{Brought, Here, Read, brought, end_events, events_at, last_after, late_events, open_after_reply, read, read_from, read_here, reading, with_events}
use Rattle.html5reading.specs.Reading.Here.{Tells, TellsTag}
use Rattle.html5reading.specs.Reading.TextPlace.{Character}
use Rattle.html5reading.specs.Slice.{Slice, cut_off, tokens_of_late}
use Rattle.html5reading.specs.Start.{Open, Rules, Start}
use Rattle.tree_construction.specs.Construction.{is_foreign}
use Rattle.tree_construction.specs.Parser.{Parser}
use Rattle.tree_construction.specs.Text.{replied_by, taken_by}
use Rattle.tree_laws.specs.Laws.{AsksAsParser}

module _ {S H : Type 0} (step : S → Told → ℕ → S) (reply : S → Told → ℕ → Reply H) (foreign : S → Bool) (parser : S → Parser)
    (asks : AsksAsParser step reply foreign parser) (rules : Rules) (K : Start) where
  parser-stepped : (s : S) (ms : List Message) → parser (stepped step s ms) ≡ stepped taken_by (parser s) ms
  unfolding stepped
  parser-stepped s [] = refl
  parser-stepped s (m ∷ ms) = parser-stepped (step s m.token m.line) ms ∙ ap (λ p. stepped taken_by p ms) (asks.steps s m.token m.line)

  abbrev by_sink : S → List ℕ → List ℕ → Slice → List ℕ → Read
  by_sink s last before slice text = read_from step reply foreign rules K s last before slice text

  abbrev by_parser : Parser → List ℕ → List ℕ → Slice → List ℕ → Read
  by_parser p last before slice text = read_from taken_by replied_by is_foreign rules K p last before slice text

  -- what follows a character is the same, if the rest of the text is
  same-here : (s : S) (last before : List ℕ) (c : ℕ) (text : List ℕ) (here : Here Slice)
      → ((t : S) (name : List ℕ) (slice : Slice) → by_sink t name (before ++ c ∷ []) slice text ≡ by_parser (parser t) name (before ++ c ∷ []) slice text)
      → read_here step reply foreign rules K (λ t name rest. by_sink t name (before ++ c ∷ []) rest text) cut_off s last before c here
      ≡ read_here taken_by replied_by is_foreign rules K (λ p name rest. by_parser p name (before ++ c ∷ []) rest text) cut_off (parser s) last before c here
  same-here s last before c text (Tells told goes_on) rest =
      let tokens : List Told = bad_character_error rules.exact c ++ told in
      let ms : List Message = on_line (line_after K.input (before ++ c ∷ [])) tokens in
      ap (with_events (events_at K.input before c tokens))
      (rest (stepped step s ms) last goes_on ∙ ap (λ p. by_parser p last (before ++ c ∷ []) goes_on text) (parser-stepped s ms))
  same-here s last before c text (TellsTag told tag) rest =
      let tokens : List Told = bad_character_error rules.exact c ++ told in
      let line : ℕ = line_after K.input (before ++ c ∷ []) in
      let t : S = stepped step s (on_line line tokens) in
      let q : Parser = stepped taken_by (parser s) (on_line line tokens) in
      let name : List ℕ = last_after last tag in
      let now : Parser → Open → Read = λ p opened. by_parser p name (before ++ c ∷ []) (cut_off opened) text in
      ap (with_events (events_at K.input before c (tokens ++ Tag tag ∷ [])))
      (rest (step t (Tag tag) line) name (cut_off (open_after_reply name (reply t (Tag tag) line)))
      ∙ ap (λ p. now p (open_after_reply name (reply t (Tag tag) line))) (asks.steps t (Tag tag) line)
      ∙ ap (λ opened. now (taken_by (parser t) (Tag tag) line) opened) (asks.replies t tag line name)
      ∙ ap (λ p. now (taken_by p (Tag tag) line) (open_after_reply name (replied_by p (Tag tag) line))) (parser-stepped s (on_line line tokens)))

  pub same-from : (s : S) (last before : List ℕ) (slice : Slice) (text : List ℕ)
      → by_sink s last before slice text ≡ by_parser (parser s) last before slice text
  unfolding read_from
  same-from s last before slice [] = refl
  same-from s last before slice (c ∷ text) =
      let next : Brought Slice = brought rules (foreign s) slice c text in
      let ms : List Message = on_line (line_after K.input before) (tokens_of_late next.settled) in
      let by_rest : Parser → Brought Slice → Read = λ p b. with_events (late_events K.input before (Character (length before)) b.settled)
      (read_here taken_by replied_by is_foreign rules K (λ t name rest. by_parser t name (before ++ c ∷ []) rest text) cut_off p last before c b.here) in
      ap (with_events (late_events K.input before (Character (length before)) next.settled))
      (same-here (stepped step s ms) last before c text next.here (λ t name rest. same-from t name (before ++ c ∷ []) rest text))
      ∙ ap (λ p. by_rest p next) (parser-stepped s ms)
      ∙ ap (λ b. by_rest (stepped taken_by (parser s) (on_line (line_after K.input before) (tokens_of_late (brought rules b slice c text).settled))) (brought rules b slice c text)) (asks.answers s)

  pub same-reading : (s : S) (text : List ℕ)
      → reading step reply foreign rules K s text ≡ reading taken_by replied_by is_foreign rules K (parser s) text
  unfolding reading read end_events
  same-reading s text =
      let Y : List ℕ = normalised K.input text in
      ap (λ (r : Read). r.events ++ end_events taken_by replied_by is_foreign rules K r.opened Y) (same-from s K.last_start_tag [] (rest_of rules K.opened Y) Y)
