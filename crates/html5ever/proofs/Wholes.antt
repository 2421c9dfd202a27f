-- A whole text: what feeding it and ending leave.
use Rattle.std.proofs.Common.{◌≡◌, inl, inr, ℕ, List, [], ◌++◌, refl, ap, sym, ◌∙◌, length, drop}
use Rattle.std.proofs.lemmas.List.{append-nil, append_assoc}
use Rattle.std.proofs.Common.{Result, Ok, Err}
use Rattle.std.specs.Prelude.{IfOk}
use Rattle.html5ever_interface.proofs.Steppings.{stepped-append}
use Rattle.html5ever_interface.specs.Collected.{Collected}
use Rattle.html5ever_interface.specs.Sink.{Means, Message, stepped}
use Rattle.html5reading.specs.Reading.{Event, end_events, read, told, messages, all_messages, messages_so_far}
use Rattle.html5reading.specs.NormalisedText.{normalised}
use Rattle.html5reading.specs.Start.{Start, Rules}
use Rattle.html5reading.proofs.ReadingLemmas.{told-nil, reading-events}
use Rattle.html5ever.proofs.Draining.{told-beyond}
use Rattle.html5reading.proofs.Traces.{messages-append}
use Rattle.html5feed.specs.Feed.{told_beyond, told_at_end}
use Rattle.html5states.specs.Telling.{Stops, StopsWithin, IsRefusal}
use Rattle.html5ever.specs.Tokenizer.{Tokenizing, StandsAt, EndStops}
use Rattle.html5partial.specs.declared.error.TokenizerError.{TokenizerError}
use Rattle.html5partial.specs.declared.error.TokenizerError.TheVariants.{Memory, Sink, Failed}
use Rattle.html5states.proofs.Tellings.{stops_before, stops_after}
use Rattle.std.proofs.Math.Seq.{drop-append_seam}

module _ {X S H : Type 0} (means : Means X S H) where
  -- the reading is what is sent, and then what the end tells
  reading-parts : (rules : Rules) (K : Start) (s : S) (text : List ℕ)
      → all_messages means rules K s text ≡ messages_so_far means rules K s text ++ told_at_end means rules K s text
  reading-parts rules K s text =
      let E : List Event = told means.step means.reply means.foreign rules K s text in
      let N : List Message = messages (end_events means.step means.reply means.foreign rules K (read means.step means.reply means.foreign rules K s text).opened (normalised K.input text)) in
      let whole : all_messages means rules K s text ≡ messages E ++ N =
      ap (λ F. messages F) (reading-events means.step means.reply means.foreign rules K s text)
      ∙ messages-append E (end_events means.step means.reply means.foreign rules K (read means.step means.reply means.foreign rules K s text).opened (normalised K.input text)) in
      whole
      ∙ ap (λ l. messages E ++ l)
      (sym (ap (drop (length (messages E))) whole ∙ drop-append_seam (messages E) N))

  state-start : (t : Tokenizing X) (K : Start) (s : S) → StandsAt means t K s [] → means.state t.sink ≡ s
  unfolding stepped
  state-start t K s stands = stands.told ∙ ap (stepped means.step s) (told-nil means.step means.reply means.foreign t.rules K s)

  -- the reading of a text in three parts
  reading-within : (rules : Rules) (K : Start) (s : S) (text taken more : List ℕ)
      → all_messages means rules K s ((text ++ taken) ++ more)
      ≡ messages_so_far means rules K s text
      ++ (told_beyond means rules K s text taken ++ (told_beyond means rules K s (text ++ taken) more ++ told_at_end means rules K s ((text ++ taken) ++ more)))
  reading-within rules K s text taken more =
      let T : List Message = messages_so_far means rules K s text in
      let B : List Message = told_beyond means rules K s text taken in
      let C : List Message = told_beyond means rules K s (text ++ taken) more in
      let E : List Message = told_at_end means rules K s ((text ++ taken) ++ more) in
      reading-parts rules K s ((text ++ taken) ++ more)
      ∙ ap (λ l. l ++ E) (told-beyond means rules K s (text ++ taken) more ∙ ap (λ l. l ++ C) (told-beyond means rules K s text taken))
      ∙ append_assoc (T ++ B) C E
      ∙ append_assoc T B (C ++ E)

  -- a feed that is refused within a run
  pub whole-within_stops : (e : TokenizerError) (t : Tokenizing X) (K : Start) (s u : S) (text taken more : List ℕ)
      → StandsAt means t K s text
      → Stops means.step means.faulted e (means.state t.sink) (told_beyond means t.rules K s text taken) u
      → EndStops means e s (all_messages means t.rules K s ((text ++ taken) ++ more)) u
  whole-within_stops Memory t K s u text taken more stands stops =
      rw (reading-within t.rules K s text taken more)
      (stops_after means.step means.faulted Memory s (means.state t.sink) u (messages_so_far means t.rules K s text) _ stands.told
      (stops_before means.step means.faulted Memory (means.state t.sink) u (told_beyond means t.rules K s text taken) _ tt stops))
  whole-within_stops Sink t K s u text taken more stands stops =
      rw (reading-within t.rules K s text taken more)
      (inl (stops_after means.step means.faulted Sink s (means.state t.sink) u (messages_so_far means t.rules K s text) _ stands.told
      (stops_before means.step means.faulted Sink (means.state t.sink) u (told_beyond means t.rules K s text taken) _ tt stops)))
  whole-within_stops Failed t K s u text taken more stands stops = stops

  pub whole-feed_stops : (e : TokenizerError) (t : Tokenizing X) (K : Start) (s u : S) (text : List ℕ)
      → StandsAt means t K s []
      → Stops means.step means.faulted e (means.state t.sink) (told_beyond means t.rules K s [] text) u
      → EndStops means e s (all_messages means t.rules K s text) u
  whole-feed_stops e t K s u text stands stops =
      rw (← append-nil text) (whole-within_stops e t K s u [] text [] stands stops)

  -- an end that was refused stopped within the whole reading
  pub whole-end_stops : (e : TokenizerError) (t : Tokenizing X) (K : Start) (s u : S) (text : List ℕ)
      → StandsAt means t K s text
      → EndStops means e (means.state t.sink) (told_at_end means t.rules K s text) u
      → EndStops means e s (all_messages means t.rules K s text) u
  whole-end_stops Memory t K s u text stands stops =
      rw (reading-parts t.rules K s text)
      (stops_after means.step means.faulted Memory s (means.state t.sink) u (messages_so_far means t.rules K s text) (told_at_end means t.rules K s text) stands.told stops)
  whole-end_stops Sink t K s u text stands (inl stops) =
      rw (reading-parts t.rules K s text)
      (inl (stops_after means.step means.faulted Sink s (means.state t.sink) u (messages_so_far means t.rules K s text) (told_at_end means t.rules K s text) stands.told stops))
  whole-end_stops Sink t K s u text stands (inr ended) =
      rw (reading-parts t.rules K s text)
      (inr (ended ∙ ap means.end_faulted (rw (stands.told) (sym (stepped-append means.step s (messages_so_far means t.rules K s text) (told_at_end means t.rules K s text))))))
  whole-end_stops Failed t K s u text stands stops = stops

-- a sink that was sent nothing yet
pub untold : {X S H : Type 0} → (means : Means X S H) (s : S) (M : List Message) → StopsWithin means.step means.faulted s M s
unfolding stepped
untold means s M = record { before = []; rest = M; parts = refl; state = refl }

-- the reading of a whole text isn't refused for an earlier refusal
pub whole-refusal : {X S H : Type 0} → (means : Means X S H) (e : TokenizerError) (s : S) (M : List Message) (t : S)
    → EndStops means e s M t → IsRefusal e
whole-refusal means Memory s M t stops = tt
whole-refusal means Sink s M t stops = tt
whole-refusal means Failed s M t stops = stops

-- what is known of a collector that holds all of a text, where the text is one item
module _ {T W : Type 0} (result : Result T TokenizerError) (IsOne : W → Type 0) where
  pub holds-one : (seen : T → Collected) (all : Collected) (one : W → Collected) → IfOk result (λ x. seen x ≡ all)
      → ((w : W) → IsOne w → all ≡ one w) → IfOk result (λ x. (w : W) → IsOne w → seen x ≡ one w)
  holds-one seen all one reads is =
      elim result as (λ r. IfOk r (λ x. seen x ≡ all) → IfOk r (λ x. (w : W) → IsOne w → seen x ≡ one w)) [
        | Ok x ↦ λ h. λ w item. h ∙ is w item
        | Err e ↦ λ h. tt
      ] reads
