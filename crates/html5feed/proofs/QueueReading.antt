-- A loop that reads the queue: what it has read so far, and what that gives when it goes on, ends or is refused.
use Rattle.std.proofs.Common.{◌≡◌, ℕ, true, false, List, [], ◌∷◌, ◌++◌, refl, ap, sym, ◌∙◌, arith, length, ◌+◌, length-append, Option, None, Some, inl, inr, subst, ◌<◌, ◌^◌}
use Rattle.std.specs.Prelude.{IfErr, encode_utf8_all}
use Rattle.std.proofs.lemmas.List.{append_assoc, append-nil}
use Rattle.markup5ever.specs.BufferQueue.{TextQueue, Takes}
use Rattle.html5reading.specs.Reading.{messages_so_far, state_after, start_after}
use Rattle.html5feed.specs.Runs.{ReadsRun}
use Rattle.html5ever_interface.specs.Sink.{Means, Message, stepped}
use Rattle.html5reading.specs.Start.{Start, Open, nothing_open, Rules}
use Rattle.html5states.specs.Telling.{Stops, IsRefusal}
use Rattle.html5reading.specs.NormalisedText.{input_after}
use Rattle.std.specs.Result.{IsErrAnd}
use Rattle.std.proofs.Common.{Result, Ok, Err}
use Rattle.html5ever_interface.specs.Token.{Told, Reply, is_tag}
use Rattle.html5ever_interface.specs.Token.Told.{Text}
use Rattle.html5ever_interface.specs.Token.Reply.{KeepOn}
use Rattle.html5feed.specs.Feed.{Feed, pauses, takes_before, first_pause, feed, IsEndOf}
use Rattle.html5feed.specs.Refused.{IsRun, IsItem, RefusedAfter}
use Rattle.html5partial.specs.Runs.{opened_after_run}
use Rattle.html5feed.proofs.RunLemmas.{run_messages, run_messages-within, run-said, input_after-within, told-run, after-run, run-quiet}
use Rattle.html5states.specs.Telling.{IsToldAs, Tells}
use Rattle.std.specs.Prelude.{OnOk, IsNone}
use Rattle.html5feed.proofs.Pauses.{told_beyond-after, state_beyond-append, pause_here, feed-goes_on, feed-takes, feed-pauses}
use Rattle.html5partial.specs.declared.error.TokenizerError.{TokenizerError}
use Rattle.html5partial.specs.declared.error.TokenizerError.TheVariants.{Memory, Sink, Failed}
use Rattle.html5reading.proofs.ReadingLemmas.{between-mode, told-nil, told-append, after-nil, after-append}
use Rattle.html5partial.proofs.Keywords.{cons≢nil}
use Rattle.html5states.proofs.Tellings.{Memory-at_once, stops_before, stops_after}

-- between tags a run opens nothing
opened_after_run-clean : (opened : Open) (run : List ℕ) → nothing_open opened ≡ true → opened_after_run opened run ≡ opened
opened_after_run-clean opened run clean = let is = between-mode opened clean in rw is.1 refl

pub on_ok : {T E : Type 0} {P : Type 0} (r : Result T E) → P → OnOk r P
on_ok (Ok x) p = p
on_ok (Err e) p = tt

-- two texts that are empty together are empty apart
pub nil-from_append : {X : Type 0} → (xs ys : List X) → xs ++ ys ≡ [] → (xs ≡ []) × (ys ≡ [])
nil-from_append [] ys e = (refl, e)
nil-from_append (x ∷ xs) ys e = absurd (cons≢nil x (xs ++ ys) e)

-- what nothing pauses in is followed by what it leaves
takes_before-twice : {H : Type 0} → (front item : List ℕ) (rest : Feed H) → takes_before front (takes_before item rest) ≡ takes_before (front ++ item) rest
takes_before-twice front item rest = ap (λ l. record { taken = l; left = rest.left; answer = rest.answer }) (sym (append_assoc front item rest.taken))

module _ {X S H : Type 0} (means : Means X S H) (rules : Rules) where
  -- the messages of a text that is taken, and the start after it
  abbrev told_of : Start → S → List ℕ → List Message
  told_of K s X = messages_so_far means rules K s X

  abbrev pub fed : Start → S → List ℕ → Feed H
  fed K s Q = feed means rules K s [] Q

  -- the characters taken so far were sent, the tokenizer stands after them, and none of them paused
  pub record HasRead (K L : Start) (old new : TextQueue) (s t : S) : Type 0 where
    pub front : List ℕ
    pub takes : Takes old new front
    pub state : t ≡ state_after means rules K s front
    pub position : L ≡ start_after means rules K s front
    pub feeds : feed means rules K s [] old.text ≡ takes_before front (feed means rules L t [] new.text)

  pub HasRead-none : (K : Start) (old : TextQueue) (s : S) → HasRead K K old old s s
  unfolding stepped
  HasRead-none K old s = record {
    front = [];
    takes = record { text = refl; handed_in = refl; taken = omega arith };
    state = rw (told-nil means.step means.reply means.foreign rules K s) refl;
    position = sym (after-nil means.step means.reply means.foreign rules K s);
    feeds = refl;
  }

  state-more : (K L : Start) (s t u : S) (front item : List ℕ) → t ≡ state_after means rules K s front → L ≡ start_after means rules K s front
      → u ≡ stepped means.step t (told_of L t item) → u ≡ stepped means.step s (told_of K s (front ++ item))
  state-more K L s t u front item state position told_now =
      told_now
      ∙ ap (λ P. stepped means.step t (told_of P t item)) position
      ∙ ap (λ v. stepped means.step v (told_of (start_after means rules K s front) v item)) state
      ∙ sym (state_beyond-append means rules K s front item)

  position-more : (K L N : Start) (s t : S) (front item : List ℕ) → t ≡ state_after means rules K s front → L ≡ start_after means rules K s front
      → N ≡ start_after means rules L t item → N ≡ start_after means rules K s (front ++ item)
  position-more K L N s t front item state position moved =
      moved
      ∙ ap (λ P. start_after means rules P t item) position
      ∙ ap (λ v. start_after means rules (start_after means rules K s front) v item) state
      ∙ sym (after-append means.step means.reply means.foreign rules K s front item)

  takes-more : (old mid new : TextQueue) (front item : List ℕ) → Takes old mid front → Takes mid new item → Takes old new (front ++ item)
  takes-more old mid new front item first taken = record {
    text = first.text ∙ ap (λ l. front ++ l) taken.text ∙ sym (append_assoc front item new.text);
    handed_in = taken.handed_in ∙ first.handed_in;
    taken = omega (arith, taken.taken, first.taken, length-append front item);
  }

  -- one item more was taken, and it didn't pause
  pub HasRead-more : (K L N : Start) (old mid new : TextQueue) (s t u : S) (item : List ℕ)
      → HasRead K L old mid s t → Takes mid new item
      → u ≡ state_after means rules L t item → N ≡ start_after means rules L t item
      → pauses (first_pause means t (messages_so_far means rules L t item)) ≡ false
      → HasRead K N old new s u
  HasRead-more K L N old mid new s t u item read taken told_now moved quiet = record {
    front = read.front ++ item;
    takes = takes-more old mid new read.front item read.takes taken;
    state = state-more K L s t u read.front item read.state read.position told_now;
    position = position-more K L N s t read.front item read.state read.position moved;
    feeds =
        read.feeds
        ∙ ap (takes_before read.front)
        (ap (fed L t) taken.text ∙ feed-goes_on means rules L t item new.text quiet
        ∙ ap (λ P. takes_before item (fed P (stepped means.step t (told_of L t item)) new.text)) (sym moved)
        ∙ ap (λ v. takes_before item (fed N v new.text)) (sym told_now))
        ∙ takes_before-twice read.front item (fed N u new.text);
  }

  -- an item that was taken is a prefix of what a feed takes
  pub record IsTaken (L : Start) (t : S) (item rest : List ℕ) : Type 0 where
    pub more : List ℕ
    pub parts : (feed means rules L t [] (item ++ rest)).taken ≡ item ++ more

  pub character-taken : (L : Start) (t : S) (c : ℕ) (rest : List ℕ) → IsTaken L t (c ∷ []) rest
  character-taken L t c rest = let takes = feed-takes means rules L t c rest in record { more = takes.0; parts = takes.1 }

  pub quiet-taken : (L : Start) (t : S) (run rest : List ℕ) → first_pause means t (messages_so_far means rules L t run) ≡ KeepOn → IsTaken L t run rest
  quiet-taken L t run rest quiet = record {
    more = (fed (start_after means rules L t run) (state_after means rules L t run) rest).taken;
    parts = ap (λ (f : Feed H). f.taken) (feed-goes_on means rules L t run rest (ap pauses quiet));
  }

  -- a run that was read
  pub HasRead-run : {T : Type 0} {x : T} (K L N : Start) (old mid new : TextQueue) (s t u : S)
      → HasRead K L old mid s t → ReadsRun {T = T} means rules (Ok x) L N mid new t u → HasRead K N old new s u
  HasRead-run K L N old mid new s t u read run =
      HasRead-more K L N old mid new s t u run.run read run.takes run.tells run.moves (ap pauses run.quiet)

  -- nothing was read at once
  pub ReadsRun-none : {T : Type 0} (x : T) (K : Start) (old : TextQueue) (s : S)
      → ReadsRun {T = T} means rules (Ok x) K K old old s s
  unfolding stepped first_pause
  ReadsRun-none x K old s = record {
    run = [];
    takes = record { text = refl; handed_in = refl; taken = omega arith };
    is_item = inl (omega arith);
    tells = rw (told-nil means.step means.reply means.foreign rules K s) refl;
    moves = sym (after-nil means.step means.reply means.foreign rules K s);
    quiet = rw (told-nil means.step means.reply means.foreign rules K s) refl;
  }

  tells_nothing : {T : Type 0} (r : Result T TokenizerError) (s : S) → IfErr r (λ e. e ≡ Memory) → Tells means.step means.faulted r s [] s
  unfolding stepped
  tells_nothing (Ok x) s memory = refl
  tells_nothing (Err e) s memory = rw memory (Memory-at_once means.step means.faulted s [])

  run_moves : {T : Type 0} (r : Result T TokenizerError) (K L : Start) (s : S) (run : List ℕ) → IsRun rules K run → K.input.line < 2 ^ 64
      → OnOk r (L.opened ≡ opened_after_run K.opened run) → L.last_start_tag ≡ K.last_start_tag → OnOk r (L.input ≡ input_after K.input run)
      → OnOk r (L ≡ start_after means rules K s run)
  run_moves (Ok x) K L s run is_run fits opened last input = rw (after-run means rules K s run is_run fits, ← opened, ← last, ← input) refl
  run_moves (Err e) K L s run is_run fits opened last input = tt

  -- a run was read, or refused
  pub ReadsRun-run : {T : Type 0} (r : Result T TokenizerError)
      → ((s : S) (told : Told) (line : ℕ) → is_tag told ≡ false → means.reply s told line ≡ KeepOn)
      → (K L : Start) (old new : TextQueue) (s t : S) (run : List ℕ) → IsRun rules K run → K.input.line < 2 ^ 64 → Takes old new run
      → Tells means.step means.faulted r s (run_messages K.opened K.input.line run) t
      → OnOk r (L.opened ≡ opened_after_run K.opened run) → L.last_start_tag ≡ K.last_start_tag → OnOk r (L.input ≡ input_after K.input run)
      → ReadsRun means rules r K L old new s t
  ReadsRun-run r keeps_on K L old new s t run is_run fits takes tells opened last input = record {
    run = run;
    takes = takes;
    is_item = inr is_run;
    tells = rw (told-run means rules K s run is_run fits) tells;
    moves = run_moves r K L s run is_run fits opened last input;
    quiet = run-quiet means keeps_on rules K s run is_run fits;
  }

  -- a run of text was sent on the line that is reached after it, or refused
  pub ReadsRun-text : {T : Type 0} (r : Result T TokenizerError)
      → ((s : S) (told : Told) (line : ℕ) → is_tag told ≡ false → means.reply s told line ≡ KeepOn)
      → (K L : Start) (old new : TextQueue) (s t : S) (run bytes : List ℕ) → IsRun rules K run → nothing_open K.opened ≡ true → K.input.line < 2 ^ 64 → Takes old new run
      → bytes ≡ encode_utf8_all run
      → ((M : List Message) → IsToldAs (Text bytes) L.input.line M → Tells means.step means.faulted r s M t)
      → L.opened ≡ K.opened → L.last_start_tag ≡ K.last_start_tag → L.input ≡ input_after K.input run
      → ReadsRun means rules r K L old new s t
  ReadsRun-text r keeps_on K L old new s t run bytes is_run clean fits takes same tells opened last input =
      ReadsRun-run r keeps_on K L old new s t run is_run fits takes
      (tells (run_messages K.opened K.input.line run) (rw (same, input) (run-said rules K run is_run clean fits)))
      (on_ok r (opened ∙ sym (opened_after_run-clean K.opened run clean))) last (on_ok r input)

  -- a run was put to the open name or value, or there was no memory for it
  pub ReadsRun-open : {T : Type 0} (r : Result T TokenizerError)
      → ((s : S) (told : Told) (line : ℕ) → is_tag told ≡ false → means.reply s told line ≡ KeepOn)
      → (K L : Start) (old new : TextQueue) (s : S) (run : List ℕ) → IsRun rules K run → nothing_open K.opened ≡ false → K.input.line < 2 ^ 64 → Takes old new run
      → IfErr r (λ e. e ≡ Memory) → OnOk r (L.opened ≡ opened_after_run K.opened run) → L.last_start_tag ≡ K.last_start_tag → L.input ≡ K.input
      → ReadsRun means rules r K L old new s s
  ReadsRun-open r keeps_on K L old new s run is_run within fits takes memory opened last input =
      ReadsRun-run r keeps_on K L old new s s run is_run fits takes
      (subst (λ (M : List Message). Tells means.step means.faulted r s M s) (sym (run_messages-within K.opened K.input.line run within)) (tells_nothing r s memory))
      opened last (on_ok r (input ∙ sym (input_after-within rules K run is_run within fits)))

  -- what the whole feed takes, around an item
  taken-parts : (K L : Start) (old mid new : TextQueue) (s t : S) (item : List ℕ) → (read : HasRead K L old mid s t) → Takes mid new item
      → (is_taken : IsTaken L t item new.text) → (fed K s old.text).taken ≡ read.front ++ (item ++ is_taken.more)
  taken-parts K L old mid new s t item read taken is_taken =
      ap (λ (f : Feed H). f.taken) read.feeds
      ∙ ap (λ l. read.front ++ l) (ap (λ Q. (fed L t Q).taken) taken.text ∙ is_taken.parts)

  -- and what it tells
  told-parts : (K L : Start) (old mid new : TextQueue) (s t : S) (item : List ℕ) → (read : HasRead K L old mid s t) → Takes mid new item
      → (is_taken : IsTaken L t item new.text)
      → told_of K s (fed K s old.text).taken
      ≡ told_of K s read.front ++ (told_of L t item ++ told_of (start_after means rules L t item) (state_after means rules L t item) is_taken.more)
  told-parts K L old mid new s t item read taken is_taken =
      ap (told_of K s) (taken-parts K L old mid new s t item read taken is_taken)
      ∙ told-append means.step means.reply means.foreign rules K s read.front (item ++ is_taken.more)
      ∙ ap (λ P. told_of K s read.front ++ told_of P (state_after means rules K s read.front) (item ++ is_taken.more)) (sym read.position)
      ∙ ap (λ v. told_of K s read.front ++ told_of L v (item ++ is_taken.more)) (sym read.state)
      ∙ ap (λ M. told_of K s read.front ++ M) (told-append means.step means.reply means.foreign rules L t item is_taken.more)

  -- the start after it
  after-parts : (K L : Start) (old mid new : TextQueue) (s t : S) (item : List ℕ) → (read : HasRead K L old mid s t) → Takes mid new item
      → (is_taken : IsTaken L t item new.text)
      → start_after means rules K s (fed K s old.text).taken
      ≡ start_after means rules (start_after means rules L t item) (state_after means rules L t item) is_taken.more
  after-parts K L old mid new s t item read taken is_taken =
      ap (start_after means rules K s) (taken-parts K L old mid new s t item read taken is_taken)
      ∙ after-append means.step means.reply means.foreign rules K s read.front (item ++ is_taken.more)
      ∙ ap (λ P. start_after means rules P (state_after means rules K s read.front) (item ++ is_taken.more)) (sym read.position)
      ∙ ap (λ v. start_after means rules L v (item ++ is_taken.more)) (sym read.state)
      ∙ after-append means.step means.reply means.foreign rules L t item is_taken.more

  -- a start is an open item and how characters come in
  pub moved-after : (N K : Start) (s : S) (X : List ℕ) → N.opened ≡ (start_after means rules K s X).opened → N.last_start_tag ≡ (start_after means rules K s X).last_start_tag → N.input ≡ input_after K.input X → N ≡ start_after means rules K s X
  moved-after N K s X opened last input = rw (← opened, ← last, ← input) refl

  pub HasRead-stops : (e : TokenizerError) (K L : Start) (old mid new : TextQueue) (s t u : S) (item : List ℕ)
      → HasRead K L old mid s t → Takes mid new item → IsTaken L t item new.text → IsRefusal e
      → Stops means.step means.faulted e t (told_of L t item) u
      → Stops means.step means.faulted e s (told_of K s (fed K s old.text).taken) u
  HasRead-stops e K L old mid new s t u item read taken is_taken refusal stops =
      rw (told-parts K L old mid new s t item read taken is_taken)
      (stops_after means.step means.faulted e s t u (told_of K s read.front) _ read.state
      (stops_before means.step means.faulted e t u (told_of L t item) _ refusal stops))

  -- a refusal at an item is one within all that the feed tells
  pub HasRead-refused : (e : TokenizerError) (K L : Start) (old mid new : TextQueue) (s t u : S) (item : List ℕ)
      → HasRead K L old mid s t → Takes mid new item → IsTaken L t item new.text
      → Stops means.step means.faulted e t (messages_so_far means rules L t item) u
      → Stops means.step means.faulted e s (messages_so_far means rules K s (feed means rules K s [] old.text).taken) u
  HasRead-refused Memory K L old mid new s t u item read taken is_taken stops = HasRead-stops Memory K L old mid new s t u item read taken is_taken tt stops
  HasRead-refused Sink K L old mid new s t u item read taken is_taken stops = HasRead-stops Sink K L old mid new s t u item read taken is_taken tt stops
  HasRead-refused Failed K L old mid new s t u item read taken is_taken stops = stops

  -- what is left where an item was refused
  pub HasRead-leaves : (e : TokenizerError) (K L : Start) (old mid new : TextQueue) (s t u : S) (item : List ℕ)
      → HasRead K L old mid s t → Takes mid new item → IsItem rules L item
      → Stops means.step means.faulted e t (messages_so_far means rules L t item) u
      → RefusedAfter means rules e K s [] old.text new.text u
  HasRead-leaves e K L old mid new s t u item read taken is_item stops = record {
    front = read.front;
    item = item;
    parts = read.takes.text ∙ ap (λ l. read.front ++ l) taken.text;
    is_item = subst (λ P. IsItem rules P item) read.position is_item;
    stopped = rw (told_beyond-after means rules K s read.front item, ← read.state, ← read.position) stops;
  }

  -- what is left after an item is a suffix of the text
  pub end-after : (K L : Start) (old mid new : TextQueue) (s t : S) (item : List ℕ) → HasRead K L old mid s t → Takes mid new item → IsEndOf new.text old.text
  end-after K L old mid new s t item read taken = record {
    front = read.front ++ item;
    parts = read.takes.text ∙ ap (λ l. read.front ++ l) taken.text ∙ sym (append_assoc read.front item new.text);
  }

  -- as many characters were taken as left the queue
  pub count-after : (K L : Start) (old mid new : TextQueue) (s t : S) (item : List ℕ) → HasRead K L old mid s t → Takes mid new item
      → new.taken + length new.text ≡ old.taken + length old.text
  count-after K L old mid new s t item read taken =
      let first : length old.text ≡ length read.front + length mid.text = ap length read.takes.text ∙ length-append read.front mid.text in
      let second : length mid.text ≡ length item + length new.text = ap length taken.text ∙ length-append item new.text in
      omega (arith, first, second, taken.taken, read.takes.taken)

  -- where a character was taken, something waited
  pub not-empty : (K L : Start) (old mid new : TextQueue) (s t : S) (c : ℕ) → HasRead K L old mid s t → Takes mid new (c ∷ []) → old.text ≡ [] → ⊥
  not-empty K L old mid new s t c read taken nothing =
      let waits : mid.text ≡ [] = (nil-from_append read.front mid.text (sym read.takes.text ∙ nothing)).1 in
      cons≢nil c new.text (sym taken.text ∙ waits)

  -- the end of a feed: all was taken, or it pauses after an item
  pub record HasFed (K N : Start) (old new : TextQueue) (s u : S) (answer : Reply H) : Type 0 where
    pub told_all : u ≡ stepped means.step s (messages_so_far means rules K s (feed means rules K s [] old.text).taken)
    pub position : N ≡ start_after means rules K s (feed means rules K s [] old.text).taken
    pub answers : answer ≡ (feed means rules K s [] old.text).answer
    pub left : new.text ≡ (feed means rules K s [] old.text).left

  -- a feed ends where the queue is empty: it took all
  pub HasFed-all : (K L : Start) (old new : TextQueue) (s t : S) → HasRead K L old new s t → new.text ≡ [] → HasFed K L old new s t KeepOn
  unfolding feed
  HasFed-all K L old new s t read none =
      let whole : fed K s old.text ≡ record { taken = read.front; left = []; answer = KeepOn } =
      read.feeds ∙ ap (λ Q. takes_before read.front (fed L t Q)) none ∙ ap (λ l. record { taken = l; left = []; answer = KeepOn }) (append-nil read.front) in
      record {
        told_all = read.state ∙ ap (λ (f : Feed H). stepped means.step s (told_of K s f.taken)) (sym whole);
        position = read.position ∙ ap (λ (f : Feed H). start_after means rules K s f.taken) (sym whole);
        answers = ap (λ (f : Feed H). f.answer) (sym whole);
        left = none ∙ ap (λ (f : Feed H). f.left) (sym whole);
      }

  -- a feed ends after a character whose reply pauses
  pub HasFed-pause : (K L N : Start) (old mid new : TextQueue) (s t u : S) (c : ℕ) (answer : Reply H)
      → HasRead K L old mid s t → Takes mid new (c ∷ [])
      → u ≡ state_after means rules L t (c ∷ []) → N ≡ start_after means rules L t (c ∷ [])
      → answer ≡ first_pause means t (messages_so_far means rules L t (c ∷ [])) → pauses answer ≡ true
      → HasFed K N old new s u answer
  unfolding pause_here
  HasFed-pause K L N old mid new s t u c answer read taken told_now moved is_first pausing =
      let whole : fed K s old.text ≡ record { taken = read.front ++ c ∷ []; left = new.text; answer = answer } =
      read.feeds
      ∙ ap (takes_before read.front)
      (ap (fed L t) taken.text
      ∙ feed-pauses means rules L t c new.text (sym (ap pauses is_first) ∙ pausing)
      ∙ ap (λ r. record { taken = c ∷ []; left = new.text; answer = r }) (sym is_first)) in
      record {
        told_all = state-more K L s t u read.front (c ∷ []) read.state read.position told_now ∙ ap (λ (f : Feed H). stepped means.step s (told_of K s f.taken)) (sym whole);
        position = position-more K L N s t read.front (c ∷ []) read.state read.position moved ∙ ap (λ (f : Feed H). start_after means rules K s f.taken) (sym whole);
        answers = ap (λ (f : Feed H). f.answer) (sym whole);
        left = ap (λ (f : Feed H). f.left) (sym whole);
      }

pub none_other : {X : Type 0} (o : Option X) → ((x : X) → o ≡ Some x → ⊥) → IsNone o
none_other None other = refl
none_other (Some x) other = absurd (other x refl)

-- the error of a `?`
pub error_of : {T : Type 0} (r : Result T TokenizerError) (e f : TokenizerError) → IsErrAnd r (λ x. x ≡ e) → r ≡ Err f → e ≡ f
error_of (Ok x) e f h same = absurd h
error_of (Err x) e f h same = sym h ∙ cc

pub error_is : {T : Type 0} {e f : TokenizerError} (r : Result T TokenizerError) → r ≡ Err e → r ≡ Err f → e ≡ f
error_is r h k = cc

pub no_error : {T : Type 0} {e : TokenizerError} (r : Result T TokenizerError) (x : T) → r ≡ Ok x → r ≡ Err e → ⊥
no_error r x h k = cc
