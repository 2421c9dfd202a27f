-- Where a tokenizer stands, after more text and at the end.
use Rattle.std.proofs.Common.{◌≡◌, ℕ, ◌<◌, ◌^◌, arith, false, List, [], ◌∷◌, ◌++◌, refl, ap, sym, ◌∙◌, subst, length, drop}
use Rattle.std.proofs.Math.Seq.{drop-append_seam}
use Rattle.html5ever_interface.specs.Sink.{Means, Message, stepped, on_line}
use Rattle.html5reading.specs.EndOfInput.{tokens_at_end}
use Rattle.html5reading.specs.NormalisedText.{with_line_feeds, without_dropped_first, normalised, line_after, input_after}
use Rattle.html5reading.specs.Reading.{end_events, read, told, messages, all_messages, messages_so_far, state_after, start_after}
use Rattle.html5reading.specs.Start.{Start, Input, Rules}
use Rattle.html5reading.specs.Start.Mode.{Plain}
use Rattle.html5reading.specs.Start.Open.{Between}
use Rattle.html5reading.proofs.ReadingLemmas.{told-nil, told-append, after-nil, after-append, reading-events, messages-at_end}
use Rattle.html5ever_interface.proofs.Steppings.{stepped-append}
use Rattle.html5reading.proofs.Traces.{messages-append}
use Rattle.html5feed.specs.Feed.{pauses, reply_in, told_beyond, told_at_end, feed}
use Rattle.html5feed.specs.Refused.{IsItem, RefusedAfter}
use Rattle.html5feed.proofs.Pauses.{told_beyond-after, state_beyond-append, feed-anew, feed-done, feed-shorter, reply_in-pauses}
use Rattle.markup5ever.specs.declared.tokenizer_result.TokenizerResult.{TokenizerResult}
use Rattle.markup5ever.specs.declared.tokenizer_result.TokenizerResult.TheVariants.{Done, Script, EncodingIndicator}
use Rattle.std.specs.Prelude.{Result, Ok, Err, OnOk, IfOk, IfErr, is_err, ◌≢◌}
use Rattle.html5states.specs.Telling.{Stops, Tells}
use Rattle.html5ever.specs.Tokenizer.{Tokenizing, StandsAt, Feeds, StopsFeeding, EndStops, state_at_end}
use Rattle.html5partial.specs.declared.error.TokenizerError.{TokenizerError}

-- the line on which the tokenizer stands is the one that the text has reached
position-line : (I : Input) (X : List ℕ) → (input_after I X).line < 2 ^ 64 → (input_after I X).line ≡ line_after I (normalised I X)
unfolding input_after normalised without_dropped_first with_line_feeds line_after
position-line I [] h = omega arith
position-line I (c ∷ X) h = refl

script≢done : {H T E : Type 0} (handle : H) (r q : Result (TokenizerResult H T) E) → r ≡ Ok (Script handle) → q ≡ Ok Done → r ≡ q → ⊥
script≢done handle r q h k e = cc

encoding≢done : {H T E : Type 0} (text : T) (r q : Result (TokenizerResult H T) E) → r ≡ Ok (EncodingIndicator text) → q ≡ Ok Done → r ≡ q → ⊥
encoding≢done text r q h k e = cc

err≢ok : {T E : Type 0} {e : E} {x : T} → Err e ≡ Ok x → ⊥
err≢ok e = cc

module _ {X S H : Type 0} (means : Means X S H) where
  -- what the end tells, by what is open
  messages-end : (rules : Rules) (K : Start) (s : S) (X : List ℕ) → (start_after means rules K s X).input.line < 2 ^ 64
      → messages (end_events means.step means.reply means.foreign rules K (read means.step means.reply means.foreign rules K s X).opened (normalised K.input X))
      ≡ on_line (start_after means rules K s X).input.line (tokens_at_end rules (start_after means rules K s X).opened)
  messages-end rules K s X h =
      messages-at_end means.step means.reply means.foreign rules K s X
      ∙ ap (λ line. on_line line (tokens_at_end rules (start_after means rules K s X).opened)) (sym (position-line K.input X h))

  -- the reading is what was sent, and then the end
  messages-reading : (rules : Rules) (K : Start) (s : S) (X : List ℕ) → (start_after means rules K s X).input.line < 2 ^ 64
      → all_messages means rules K s X
      ≡ messages_so_far means rules K s X ++ on_line (start_after means rules K s X).input.line (tokens_at_end rules (start_after means rules K s X).opened)
  messages-reading rules K s X h =
      ap (λ E. messages E) (reading-events means.step means.reply means.foreign rules K s X)
      ∙ messages-append (told means.step means.reply means.foreign rules K s X) (end_events means.step means.reply means.foreign rules K (read means.step means.reply means.foreign rules K s X).opened (normalised K.input X))
      ∙ ap (λ M. messages_so_far means rules K s X ++ M) (messages-end rules K s X h)

  told_at_end-end : (rules : Rules) (K : Start) (s : S) (X : List ℕ) → (start_after means rules K s X).input.line < 2 ^ 64
      → told_at_end means rules K s X ≡ on_line (start_after means rules K s X).input.line (tokens_at_end rules (start_after means rules K s X).opened)
  told_at_end-end rules K s X h =
      let M : List Message = on_line (start_after means rules K s X).input.line (tokens_at_end rules (start_after means rules K s X).opened) in
      ap (drop (length (messages_so_far means rules K s X))) (messages-reading rules K s X h)
      ∙ drop-append_seam (messages_so_far means rules K s X) M

  pub StandsAt-start : (t : Tokenizing X) (K : Start) → t.position ≡ K → t.failed ≡ false → t.ended ≡ false
      → StandsAt means t K (means.state t.sink) []
  unfolding stepped
  StandsAt-start t K e not_failed not_ended = record {
    told = rw (told-nil means.step means.reply means.foreign t.rules K (means.state t.sink)) refl;
    position = e ∙ sym (after-nil means.step means.reply means.foreign t.rules K (means.state t.sink));
    not_failed = not_failed;
    not_ended = not_ended;
  }

  -- another sink, when nothing is pending
  pub StandsAt-anew : (t : Tokenizing X) (x : X) → t.failed ≡ false → t.ended ≡ false
      → StandsAt means (record t { sink = x }) t.position (means.state x) []
  StandsAt-anew t x not_failed not_ended = StandsAt-start (record t { sink = x }) t.position refl not_failed not_ended

  -- plain text from here on
  pub StandsAt-plain : (t : Tokenizing X) (before : Start) → t.position.opened ≡ Between Plain → t.position.last_start_tag ≡ before.last_start_tag → t.position.input ≡ before.input → t.failed ≡ false → t.ended ≡ false
      → StandsAt means t (record before { opened = Between Plain }) (means.state t.sink) []
  StandsAt-plain t before opened last input not_failed not_ended =
      StandsAt-start t (record before { opened = Between Plain }) (rw (← opened, ← last, ← input) refl) not_failed not_ended

  -- a tokenizer that read `more` from its own position stands after it: forgetting, for a tokenizer
  pub StandsAt-more : (t u : Tokenizing X) (K : Start) (s : S) (text more : List ℕ)
      → u.rules ≡ t.rules → means.state u.sink ≡ stepped means.step (means.state t.sink) (messages_so_far means t.rules t.position (means.state t.sink) more)
      → u.position ≡ start_after means t.rules t.position (means.state t.sink) more → u.failed ≡ false → u.ended ≡ t.ended
      → StandsAt means t K s text → StandsAt means u K s (text ++ more)
  StandsAt-more t u K s text more rules tells moves not_failed ended stands = record {
    told =
        tells
        ∙ rw (stands.position, stands.told)
        (sym (stepped-append means.step s (messages_so_far means t.rules K s text) (messages_so_far means t.rules (start_after means t.rules K s text) (state_after means t.rules K s text) more)))
        ∙ ap (λ M. stepped means.step s M) (sym (told-append means.step means.reply means.foreign t.rules K s text more))
        ∙ ap (λ x. state_after means x K s (text ++ more)) (sym rules);
    position =
        moves
        ∙ rw (stands.position, stands.told) (sym (after-append means.step means.reply means.foreign t.rules K s text more))
        ∙ ap (λ x. start_after means x K s (text ++ more)) (sym rules);
    not_failed = not_failed;
    not_ended = ended ∙ stands.not_ended;
  }

  -- where the tokenizer stands says what a feed does
  pub feed-stands : (t : Tokenizing X) (K : Start) (s : S) (text queue : List ℕ) → StandsAt means t K s text
      → feed means t.rules K s text queue ≡ feed means t.rules t.position (means.state t.sink) [] queue
  feed-stands t K s text queue stands =
      feed-anew means t.rules K s text queue
      ∙ ap (λ P. feed means t.rules P (state_after means t.rules K s text) [] queue) (sym stands.position)
      ∙ ap (λ v. feed means t.rules t.position v [] queue) (sym stands.told)

  -- a feed that read what it takes
  pub Feeds-read : {T : Type 0} → (bytes : T → List ℕ) (r : Result (TokenizerResult H T) TokenizerError) (t u : Tokenizing X) (queue left : List ℕ)
      → u.rules ≡ t.rules → u.failed ≡ is_err r → u.ended ≡ t.ended
      → Tells means.step means.faulted r (means.state t.sink) (messages_so_far means t.rules t.position (means.state t.sink) (feed means t.rules t.position (means.state t.sink) [] queue).taken) (means.state u.sink)
      → OnOk r (u.position ≡ start_after means t.rules t.position (means.state t.sink) (feed means t.rules t.position (means.state t.sink) [] queue).taken)
      → IfOk r (λ answer. reply_in bytes answer ≡ (feed means t.rules t.position (means.state t.sink) [] queue).answer)
      → OnOk r (left ≡ (feed means t.rules t.position (means.state t.sink) [] queue).left)
      → IfOk r (λ answer. Feeds means t u queue left (reply_in bytes answer))
  Feeds-read bytes (Ok answer) t u queue left rules failed ended tells moves answers leaves = λ K s text stands.
      rw (feed-stands t K s text queue stands) record {
        stands = StandsAt-more t u K s text _ rules tells moves failed ended stands;
        answer = answers;
        left = leaves;
      }
  Feeds-read bytes (Err e) t u queue left rules failed ended tells moves answers leaves = tt

  pub Stops-beyond : (e : TokenizerError) (t : Tokenizing X) (K : Start) (s v : S) (text more : List ℕ)
      → StandsAt means t K s text
      → Stops means.step means.faulted e (means.state t.sink) (messages_so_far means t.rules t.position (means.state t.sink) more) v
      → Stops means.step means.faulted e (means.state t.sink) (told_beyond means t.rules K s text more) v
  Stops-beyond e t K s v text more stands stops =
      rw (told_beyond-after means t.rules K s text more, ← stands.told, ← stands.position) stops

  -- the end of a text
  pub StandsAt-finished : (t : Tokenizing X) (K : Start) (s : S) (text : List ℕ) (v : S) → t.position.input.line < 2 ^ 64
      → v ≡ means.finish (stepped means.step (means.state t.sink) (on_line t.position.input.line (tokens_at_end t.rules t.position.opened)))
      → StandsAt means t K s text → v ≡ state_at_end means t.rules K s text
  StandsAt-finished t K s text v h tells stands =
      let fits : (start_after means t.rules K s text).input.line < 2 ^ 64 = subst (λ (P : Start). P.input.line < 2 ^ 64) stands.position h in
      tells
      ∙ ap (λ (P : Start). means.finish (stepped means.step (means.state t.sink) (on_line P.input.line (tokens_at_end t.rules P.opened)))) stands.position
      ∙ ap (λ u. means.finish (stepped means.step u (on_line (start_after means t.rules K s text).input.line (tokens_at_end t.rules (start_after means t.rules K s text).opened)))) stands.told
      ∙ ap means.finish (sym (stepped-append means.step s (messages_so_far means t.rules K s text) (on_line (start_after means t.rules K s text).input.line (tokens_at_end t.rules (start_after means t.rules K s text).opened))))
      ∙ ap (λ M. means.finish (stepped means.step s M)) (sym (messages-reading t.rules K s text fits))

  pub EndStops-at_end : (e : TokenizerError) (t : Tokenizing X) (K : Start) (s v : S) (text : List ℕ) → t.position.input.line < 2 ^ 64
      → StandsAt means t K s text
      → EndStops means e (means.state t.sink) (on_line t.position.input.line (tokens_at_end t.rules t.position.opened)) v
      → EndStops means e (means.state t.sink) (told_at_end means t.rules K s text) v
  EndStops-at_end e t K s v text h stands stops =
      let fits : (start_after means t.rules K s text).input.line < 2 ^ 64 = subst (λ (P : Start). P.input.line < 2 ^ 64) stands.position h in
      subst (λ M. EndStops means e (means.state t.sink) M v)
      (ap (λ (P : Start). on_line P.input.line (tokens_at_end t.rules P.opened)) stands.position ∙ sym (told_at_end-end t.rules K s text fits)) stops

-- what a feed leaves

module _ {X S H : Type 0} (means : Means X S H) where
  -- where the tokenizer stands says what a refused feed leaves
  RefusedAfter-stands : (e : TokenizerError) (t : Tokenizing X) (queue left : List ℕ) (v : S)
      → RefusedAfter means t.rules e t.position (means.state t.sink) [] queue left v
      → (K : Start) (s : S) (text : List ℕ) → StandsAt means t K s text
      → RefusedAfter means t.rules e K s text queue left v
  RefusedAfter-stands e t queue left v r K s text stands =
      let position : start_after means t.rules t.position (means.state t.sink) r.front ≡ start_after means t.rules K s (text ++ r.front) =
      rw (stands.position, stands.told) (sym (after-append means.step means.reply means.foreign t.rules K s text r.front)) in
      let afterwards : stepped means.step (means.state t.sink) (messages_so_far means t.rules t.position (means.state t.sink) r.front)
      ≡ state_after means t.rules K s (text ++ r.front) =
      rw (stands.position, stands.told) (sym (state_beyond-append means t.rules K s text r.front)) in
      record {
        front = r.front;
        item = r.item;
        parts = r.parts;
        is_item = subst (λ P. IsItem t.rules P r.item) position r.is_item;
        stopped = rw (told_beyond-after means t.rules K s (text ++ r.front) r.item, ← afterwards, ← position)
            (rw (told_beyond-after means t.rules t.position (means.state t.sink) r.front r.item) at r.stopped);
      }

  pub StopsFeeding-read : {T : Type 0} → (r : Result T TokenizerError) (t : Tokenizing X) (queue left : List ℕ) (v : S)
      → Tells means.step means.faulted r (means.state t.sink) (messages_so_far means t.rules t.position (means.state t.sink) (feed means t.rules t.position (means.state t.sink) [] queue).taken) v
      → IfErr r (λ e. RefusedAfter means t.rules e t.position (means.state t.sink) [] queue left v)
      → IfErr r (λ e. StopsFeeding means e t queue left v)
  StopsFeeding-read (Ok x) t queue left v tells refused = tt
  StopsFeeding-read (Err e) t queue left v tells refused = λ K s text stands. record {
    stops = rw (feed-stands means t K s text queue stands) (Stops-beyond means e t K s v text _ stands tells);
    refused = RefusedAfter-stands e t queue left v refused K s text stands;
  }

  -- an answer `Done` leaves nothing, and every other one less than there was
  module _ {T : Type 0} (bytes : T → List ℕ) (rules : Rules) (P : Start) (s : S) (queue left : List ℕ) where
    pub left-done : (r : Result (TokenizerResult H T) TokenizerError)
        → IfOk r (λ answer. reply_in bytes answer ≡ (feed means rules P s [] queue).answer)
        → OnOk r (left ≡ (feed means rules P s [] queue).left) → r ≡ Ok Done → left ≡ []
    left-done (Ok Done) answers leaves same = leaves ∙ feed-done means rules P s [] queue (ap pauses (sym answers))
    left-done (Ok (Script handle)) answers leaves same = absurd (script≢done handle _ _ refl refl same)
    left-done (Ok (EncodingIndicator text)) answers leaves same = absurd (encoding≢done text _ _ refl refl same)
    left-done (Err e) answers leaves same = absurd (err≢ok same)

    pub left-shorter : (r : Result (TokenizerResult H T) TokenizerError)
        → IfOk r (λ answer. reply_in bytes answer ≡ (feed means rules P s [] queue).answer)
        → OnOk r (left ≡ (feed means rules P s [] queue).left)
        → IfOk r (λ answer. answer ≢ Done → length left < length queue)
    left-shorter (Ok answer) answers leaves = λ other.
        rw leaves (feed-shorter means rules P s [] queue (sym (ap pauses answers) ∙ reply_in-pauses bytes answer other))
    left-shorter (Err e) answers leaves = tt
