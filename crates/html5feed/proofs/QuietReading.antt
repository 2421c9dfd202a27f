-- Characters that tell nothing leave the sink as it is, and lead to the item open after them.
use Rattle.std.proofs.Common.{◌≡◌, ◌≢◌, ◌⊎◌, inl, inr, ℕ, ◌<◌, ◌+◌, ◌^◌, zero, suc, false, List, [], ◌∷◌, ◌++◌, Ok, Err, refl, ap, sym, ◌∙◌, subst, arith, length, length-append, take}
use Rattle.std.specs.Prelude.{All, encode_utf8_all}
use Rattle.std.specs.Str.{chars}
use Rattle.std.proofs.Math.Bool.{and-false}
use Rattle.std.proofs.lemmas.Bool.{ne_eqb}
use Rattle.std.proofs.lemmas.List.{append-nil, append_assoc}
use Rattle.std.proofs.lemmas.List.Elements.{All-nil, All-cons}
use Rattle.std.proofs.lemmas.Str.{chars-nil}
use Rattle.html5ever_interface.specs.Sink.{Means, stepped}
use Rattle.html5reading.specs.Characters.{line_feed}
use Rattle.html5reading.specs.Machine.{step_at, brought_at, reference_step}
use Rattle.html5reading.specs.NormalisedText.{normalised, line_after}
use Rattle.html5reading.specs.Reading.{messages_so_far, start_after}
use Rattle.html5reading.specs.Reading.Here.{Tells}
use Rattle.html5reading.specs.Start.{Open, Rules, Stand, Start}
use Rattle.html5reading.specs.Start.Open.{InReference}
use Rattle.html5reading.proofs.GoodCharacters.{good_between}
use Rattle.html5reading.proofs.InputLemmas.{line_past, line_after-none}
use Rattle.html5reading.proofs.ReadingLemmas.{told-trace, after-opened, after-last, told-nil, after-nil}
use Rattle.html5reading.proofs.Traces.{Trace, trace, trace_brought, trace_here, with_messages, brought-tells}
use Rattle.html5partial.specs.CharRef.{HoldsEach}
use Rattle.html5partial.specs.declared.error.TokenizerError.TheVariants.{Memory}
use Rattle.html5fast_path.specs.Quiet.{IsQuiet, ReadsQuietly}
use Rattle.html5feed.specs.Feed.{feed, first_pause}
use Rattle.html5feed.specs.Quiet.{IsQuietText, StopsAtCharacter, TakesQuietly, TellsNothing}
use Rattle.html5feed.specs.Refused.{RefusedAfter}
use Rattle.html5feed.proofs.QueueReading.{HasRead, HasRead-more, HasRead-stops, HasRead-leaves}
use Rattle.html5states.specs.Telling.{Stops}
use Rattle.html5states.proofs.Tellings.{Memory-at_once}
use Rattle.html5feed.proofs.RunLemmas.{IsOrdinary, normalised-ordinary, input_after-ordinary}
use Rattle.markup5ever.specs.BufferQueue.{TextQueue, Takes}
use Rattle.markup5ever.specs.NamedReferences.{NamedReference}

all_ordinary : (opened : Open) (text : List ℕ) (later : Open) → ReadsQuietly opened text later → All IsOrdinary text
unfolding ReadsQuietly
all_ordinary opened [] later reads = All-nil IsOrdinary
all_ordinary opened (c ∷ text) later reads =
    All-cons IsOrdinary c text (record { no_line_feed = reads.1.0.no_line_feed; no_carriage_return = reads.1.0.no_carriage_return }) (all_ordinary reads.0 text later reads.1.1)

held_ordinary : (references : List NamedReference) (held text : List ℕ) → HoldsEach references held text → All IsOrdinary text
unfolding HoldsEach
held_ordinary references held [] holds = All-nil IsOrdinary
held_ordinary references held (c ∷ text) holds =
    All-cons IsOrdinary c text
    (record { no_line_feed = λ e. omega (arith, holds.1, e); no_carriage_return = λ e. omega (arith, holds.1, e) })
    (held_ordinary references (held ++ c ∷ []) text holds.3)

text_ordinary : (rules : Rules) (opened : Open) (text : List ℕ) (later : Open) → TellsNothing rules opened text later → All IsOrdinary text
text_ordinary rules opened text later (inl quiet) = all_ordinary opened text later quiet.1
text_ordinary rules opened text later (inr held) = held_ordinary rules.references held.held text held.holds

-- nothing was taken
pub takes-nothing : {T : Type 0} (x : T) (rules : Rules) (K L : Start) (old : TextQueue) → L.opened ≡ K.opened → L.last_start_tag ≡ K.last_start_tag → L.input ≡ K.input
    → TakesQuietly rules (Ok x) K L old old
takes-nothing x rules K L old opened last input = record {
  front = [];
  item = [];
  takes = record { text = refl; handed_in = refl; taken = omega arith };
  is_one = omega arith;
  later = L.opened;
  quiet = inr (refl, opened);
  all = refl;
  moves = rw (← last, ← input) refl;
}

pub takes-none : {T : Type 0} (x : T) (rules : Rules) (K : Start) (old : TextQueue) → TakesQuietly rules (Ok x) K K old old
takes-none x rules K old = takes-nothing x rules K K old refl refl refl

-- what was taken, where it tells nothing
pub takes-quietly : {T : Type 0} (x : T) (rules : Rules) (K L : Start) (old new : TextQueue) (bytes : ℕ) → Takes old new (chars (take bytes (encode_utf8_all old.text)))
    → (bytes ≢ 0 → IsQuietText rules K (chars (take bytes (encode_utf8_all old.text))) L.opened) → (bytes ≡ 0 → L.opened ≡ K.opened)
    → L.last_start_tag ≡ K.last_start_tag → L.input ≡ K.input → TakesQuietly rules (Ok x) K L old new
takes-quietly x rules K L old new bytes takes quiet none last input =
    let front : List ℕ = chars (take bytes (encode_utf8_all old.text)) in
    record {
      front = front;
      item = [];
      takes = rw (append-nil front) takes;
      is_one = omega arith;
      later = L.opened;
      quiet = by bytes quiet none;
      all = refl;
      moves = rw (← last, ← input) refl;
    }
  where
    by : (n : ℕ) → (n ≢ 0 → IsQuietText rules K (chars (take n (encode_utf8_all old.text))) L.opened) → (n ≡ 0 → L.opened ≡ K.opened)
        → IsQuietText rules K (chars (take n (encode_utf8_all old.text))) L.opened ⊎ ((chars (take n (encode_utf8_all old.text)) ≡ []) × (L.opened ≡ K.opened))
    by zero q e = inr (chars-nil, e refl)
    by (suc n) q e = inl (q (λ zero. cc))

-- and if it was refused
pub stops-quietly : {T : Type 0} (rules : Rules) (K L : Start) (old new : TextQueue) (text : List ℕ) → Takes old new text → StopsAtCharacter rules K text
    → TakesQuietly {T = T} rules (Err Memory) K L old new
stops-quietly rules K L old new text takes stops = record {
  front = stops.front;
  item = stops.item;
  takes = subst (Takes old new) stops.parts takes;
  is_one = stops.is_one;
  later = stops.later;
  quiet = inl stops.quiet;
  all = tt;
  moves = tt;
}

module _ {X S H : Type 0} (means : Means X S H) (rules : Rules) where
  trace-quietly : (s : S) (line : ℕ) (last : List ℕ) (opened : Open) (text : List ℕ) (later : Open) → rules.exact ≡ false → line < 2 ^ 64 → ReadsQuietly opened text later
      → trace means.step means.reply means.foreign rules s line last opened text ≡ record { messages = []; opened = later; last_start_tag = last }
  unfolding trace trace_brought trace_here stepped ReadsQuietly line_past
  trace-quietly s line last opened [] later not_exact h reads = rw reads refl
  trace-quietly s line last opened (c ∷ text) later not_exact h reads =
      let q : IsQuiet opened reads.0 c = reads.1.0 in
      let here : step_at rules.exact opened c ≡ Tells [] reads.0 = ap (λ b. step_at b opened c) not_exact ∙ q.steps in
      let stays : line_past line c ≡ line = rw (ne_eqb c line_feed q.no_line_feed) (omega (arith, h)) in
      rw (brought-tells rules (means.foreign s) opened c (Tells [] reads.0) q.decided here, stays, not_exact)
      (ap (with_messages []) (trace-quietly s line last reads.0 text later not_exact h reads.1.1))

  -- each character of a text is held of a reference
  trace-held : (s : S) (line : ℕ) (last : List ℕ) (stand : Stand) (held text : List ℕ) → line < 2 ^ 64 → HoldsEach rules.references held text
      → trace means.step means.reply means.foreign rules s line last (InReference stand held) text ≡ record { messages = []; opened = InReference stand (held ++ text); last_start_tag = last }
  unfolding trace trace_brought trace_here stepped HoldsEach line_past brought_at reference_step
  trace-held s line last stand held [] h holds = rw (append-nil held) refl
  trace-held s line last stand held (c ∷ text) h holds =
      let stays : line_past line c ≡ line = rw (ne_eqb c line_feed (λ e. omega (arith, holds.1, e))) (omega (arith, h)) in
      rw (holds.0, stays, good_between c holds.1 holds.2, and-false rules.exact, ← append_assoc held (c ∷ []) text)
      (ap (with_messages []) (trace-held s line last stand (held ++ c ∷ []) text h holds.3))

  trace-text : (s : S) (line : ℕ) (last : List ℕ) (opened : Open) (text : List ℕ) (later : Open) → line < 2 ^ 64 → TellsNothing rules opened text later
      → trace means.step means.reply means.foreign rules s line last opened text ≡ record { messages = []; opened = later; last_start_tag = last }
  trace-text s line last opened text later h (inl quiet) = trace-quietly s line last opened text later quiet.0 h quiet.1
  trace-text s line last opened text later h (inr held) = rw (held.before, held.after) (trace-held s line last held.stand held.held text h held.holds)

  quiet-trace : (K : Start) (s : S) (text : List ℕ) (later : Open) → IsQuietText rules K text later
      → trace means.step means.reply means.foreign rules s (line_after K.input []) K.last_start_tag K.opened (normalised K.input text)
      ≡ record { messages = []; opened = later; last_start_tag = K.last_start_tag }
  quiet-trace K s text later q =
      rw (line_after-none K.input q.fits, normalised-ordinary K.input text q.past_line_break q.past_stream_start (text_ordinary rules K.opened text later q.reads))
      (trace-text s K.input.line K.last_start_tag K.opened text later q.fits q.reads)

  pub told-quietly : (K : Start) (s : S) (text : List ℕ) (later : Open) → IsQuietText rules K text later → messages_so_far means rules K s text ≡ []
  told-quietly K s text later q =
      told-trace means.step means.reply means.foreign rules K s text ∙ ap (λ (t : Trace). t.messages) (quiet-trace K s text later q)

  pub after-quietly : (K : Start) (s : S) (text : List ℕ) (later : Open) → IsQuietText rules K text later → start_after means rules K s text ≡ record K { opened = later }
  after-quietly K s text later q =
      let opened : (start_after means rules K s text).opened ≡ later =
      after-opened means.step means.reply means.foreign rules K s text ∙ ap (λ (t : Trace). t.opened) (quiet-trace K s text later q) in
      let last : (start_after means rules K s text).last_start_tag ≡ K.last_start_tag =
      after-last means.step means.reply means.foreign rules K s text ∙ ap (λ (t : Trace). t.last_start_tag) (quiet-trace K s text later q) in
      rw (opened, last, input_after-ordinary K.input text q.past_line_break q.past_stream_start (text_ordinary rules K.opened text later q.reads) q.fits) refl

  -- so the tokenizer has read on to where it leads, and sent nothing
  HasRead-text : (K L N : Start) (old mid new : TextQueue) (s t : S) (front : List ℕ) (later : Open) → HasRead means rules K L old mid s t → Takes mid new front
      → N ≡ record L { opened = later } → IsQuietText rules L front later ⊎ ((front ≡ []) × (later ≡ L.opened)) → HasRead means rules K N old new s t
  unfolding stepped first_pause
  HasRead-text K L N old mid new s t front later read takes moves (inl q) =
      let none : messages_so_far means rules L t front ≡ [] = told-quietly L t front later q in
      HasRead-more means rules K L N old mid new s t t front read takes (rw none refl) (moves ∙ sym (after-quietly L t front later q)) (rw none refl)
  HasRead-text K L N old mid new s t front later read takes moves (inr none) =
      let same : L ≡ N = sym (moves ∙ ap (λ o. record L { opened = o }) none.1) in
      let nothing : messages_so_far means rules L t [] ≡ [] = told-nil means.step means.reply means.foreign rules L t in
      HasRead-more means rules K L N old mid new s t t [] read (subst (Takes mid new) none.0 takes) (rw nothing refl)
      (sym same ∙ sym (after-nil means.step means.reply means.foreign rules L t)) (rw nothing refl)

  pub HasRead-quietly : {T : Type 0} {x : T} (K L N : Start) (old mid new : TextQueue) (s t : S) → HasRead means rules K L old mid s t
      → TakesQuietly {T = T} rules (Ok x) L N mid new → HasRead means rules K N old new s t
  HasRead-quietly K L N old mid new s t read takes =
      HasRead-text K L N old mid new s t takes.front takes.later read
      (subst (Takes mid new) (ap (λ l. takes.front ++ l) takes.all ∙ append-nil takes.front) takes.takes) takes.moves takes.quiet

  -- what was read before the character that was refused
  pub record ReadBefore (K : Start) (old new : TextQueue) (s t : S) (item : List ℕ) : Type 0 where
    pub stands : Start
    pub waits : TextQueue
    pub read : HasRead means rules K stands old waits s t
    pub takes : Takes waits new item

  -- where memory was refused, all before that character was read
  pub read_before : {T : Type 0} (K L N : Start) (old mid new : TextQueue) (s t : S) → HasRead means rules K L old mid s t
      → (takes : TakesQuietly {T = T} rules (Err Memory) L N mid new) → ReadBefore K old new s t takes.item
  read_before K L N old mid new s t read takes =
      let waits : TextQueue = record mid { text = takes.item ++ new.text; taken = mid.taken + length takes.front } in
      record {
        stands = record L { opened = takes.later };
        waits = waits;
        read = HasRead-text K L _ old mid waits s t takes.front takes.later read
            (record { text = takes.takes.text ∙ append_assoc takes.front takes.item new.text; handed_in = refl; taken = refl }) refl takes.quiet;
        takes = record { text = refl; handed_in = takes.takes.handed_in; taken = omega (arith, takes.takes.taken, length-append takes.front takes.item) };
      }

  -- a refusal there is one within all that the feed tells
  pub refused-at_once : (K L : Start) (old mid : TextQueue) (s t : S) → HasRead means rules K L old mid s t
      → Stops means.step means.faulted Memory s (messages_so_far means rules K s (feed means rules K s [] old.text).taken) t
  refused-at_once K L old mid s t read =
      HasRead-stops means rules Memory K L old mid mid s t t [] read (record { text = refl; handed_in = refl; taken = omega arith })
      (record { more = (feed means rules L t [] mid.text).taken; parts = refl }) tt (Memory-at_once means.step means.faulted t _)

  -- and leaves the text after the character
  pub leaves-quietly : {T : Type 0} (K L N : Start) (old mid new : TextQueue) (s t : S) → HasRead means rules K L old mid s t
      → TakesQuietly {T = T} rules (Err Memory) L N mid new → RefusedAfter means rules Memory K s [] old.text new.text t
  leaves-quietly K L N old mid new s t read takes =
      let before = read_before K L N old mid new s t read takes in
      HasRead-leaves means rules Memory K before.stands old before.waits new s t t takes.item before.read before.takes (inl takes.is_one) (Memory-at_once means.step means.faulted t _)
