-- A source that is read piece by piece: the text fed so far, and what that gives at the end, or where the reading stops.
use Rattle.std.proofs.Common.{Result, Ok, Err, ◌≡◌, ◌≢◌, ◌⊎◌, ℕ, ◌+◌, ◌<◌, ◌≤◌, false, List, [], ◌∷◌, ◌++◌, length, take, Option, None, Some, refl, sym, ◌∙◌, ap, subst, arith, inl, inr, append-nil, append_assoc, length-append}
use Rattle.std.specs.Prelude.{OnOk, IfErr}
use Rattle.std.specs.Io.KnownBytes.{Consumes, IsAtEnd}
use Rattle.std.specs.Str.{IsUtf8, IsValidUpTo, chars}
use Rattle.std.proofs.lemmas.Bool.{cases_lt}
use Rattle.std.proofs.lemmas.List.{take_all, length-take-le}
use Rattle.std.proofs.lemmas.Result.{IfErr-at_err}
use Rattle.std.proofs.lemmas.Str.{IsUtf8-append, IsUtf8-nil, chars-append, chars-nil}
use Rattle.devices.proofs.KnownBytes.{Consumes-append}
use Rattle.utf8_pieces.specs.Pieces.{Decoding, IsCutCharacter, IsFault, IsNeverUtf8, place_after}
use Rattle.utf8_pieces.specs.declared.error.DecodeError.{DecodeError}
use Rattle.utf8_pieces.specs.declared.error.DecodeError.TheVariants as decoder
use Rattle.utf8_pieces.proofs.Cuts.{no_text_within}
use Rattle.utf8_pieces.proofs.Fronts.{IsCutCharacter-nil, IsNeverUtf8-after, IsValidUpTo-after, not_never}
use Rattle.html5ever_interface.specs.Options.{OptionsOf}
use Rattle.html5ever_interface.specs.Sink.{Means, Message, stepped}
use Rattle.html5reading.specs.Reading.{all_messages, state_after}
use Rattle.html5reading.specs.Start.{Start, start_of}
use Rattle.html5partial.specs.declared.error.TokenizerError.{TokenizerError}
use Rattle.html5partial.specs.declared.error.TokenizerError.TheVariants as tokenizer
use Rattle.html5feed.specs.Feed.{told_beyond, told_at_end}
use Rattle.html5states.specs.Telling.{StopsWithin}
use Rattle.html5ever.specs.Tokenizer.{Tokenizing, StandsAt, ReadsOn, Finishes, StopsReading, StopsEnding, EndStops, rules_of, state_at_end}
use Rattle.html5ever.proofs.Wholes.{whole-within_stops, whole-end_stops}
use Rattle.markup5ever.specs.NamedReferences.{NamedReference}
use Rattle.html5stream.specs.declared.error.StreamError.{StreamError}
use Rattle.html5stream.specs.declared.error.StreamError.TheVariants.{Read, NotUtf8, Memory, Sink, TooLong}
use Rattle.html5stream.specs.DecodeErrors.{of_decoder}
use Rattle.html5stream.specs.Errors.{stream_error}
use Rattle.html5stream.specs.Streams.{SourceStops, ReadsSource, StopsSource, TellsGiven, GivesNoText, GivesNoFault, GivesAtLeast, failed_read, failed_reads, sink_fault}
use Rattle.html5stream.specs.Taking.{TakesBytes, TakesText, FinishesText, StopsTelling, StopsAtEnd, StopsBytes, StopsText}
use Rattle.html5stream.proofs.Refusals.{decoder-place, decoder-named, place_in, SourceStops-end}

-- ---- bytes

Consumes-none : (known : Option (List ℕ)) → Consumes known known []
Consumes-none None = tt
Consumes-none (Some xs) = refl

place_after-twice : (place a b : ℕ) → place_after (place_after place a) b ≡ place_after place (a + b)
place_after-twice place a b = omega arith

some_bytes : (bytes : List ℕ) → ¬ (bytes ≡ []) → 0 < length bytes
some_bytes [] some = absurd (some refl)
some_bytes (b ∷ bytes) some = omega arith

-- at the start a source gave nothing yet
pub GivesAtLeast-none : (known : Option (List ℕ)) → GivesAtLeast 0 known known
GivesAtLeast-none known = record { bytes = []; given = Consumes-none known; long = omega arith }

-- and after each read that gives something, a byte more at least
pub GivesAtLeast-more : (count : ℕ) (before now after : Option (List ℕ)) (more : List ℕ) → GivesAtLeast count before now → Consumes now after more → 0 < length more
    → GivesAtLeast (count + 1) before after
GivesAtLeast-more count before now after more had given some = record {
  bytes = had.bytes ++ more;
  given = Consumes-append before now after had.bytes more had.given given;
  long = omega (arith, had.long, length-append had.bytes more);
}

pub GivesAtLeast-fewer : (count more : ℕ) (before after : Option (List ℕ)) → count ≤ more → GivesAtLeast more before after → GivesAtLeast count before after
GivesAtLeast-fewer count more before after few had = record { bytes = had.bytes; given = had.given; long = omega (arith, had.long) }

pub some_taken : (n : ℕ) (buffer : List ℕ) → n ≤ length buffer → n ≢ 0 → 0 < length (take n buffer)
some_taken n buffer within some = omega (arith, length-take-le n buffer within)

-- no text begins a character that is cut
IsValidUpTo-cut : (held : List ℕ) → IsCutCharacter held → 0 < length held → IsValidUpTo held 0
IsValidUpTo-cut held cut some =
    record {
      short = some;
      front = IsUtf8-nil;
      longest = λ m more text. elim (cases_lt (length held) m) [
        | inl past ↦
            let same = take_all m held (omega arith) ∙ sym (take_all (length held) held (omega arith)) in
            no_text_within held (length held) text.0 cut some (omega arith) (text.1.1 ∙ same)
        | inr within ↦ no_text_within held m text.0 cut more within text.1.1
      ];
    }

-- what may begin a character can go on after a text
not_never-cut : (text rest : List ℕ) → IsUtf8 text → IsCutCharacter rest → ¬ (IsNeverUtf8 (text ++ rest))
not_never-cut text rest utf8 cut = not_never text rest 0 utf8 (record { within = omega arith; text = IsUtf8-nil; cut = cut })

-- nor does a text in front change whether bytes can go on
not_never-after : (text bytes : List ℕ) → IsUtf8 text → ¬ (IsNeverUtf8 bytes) → ¬ (IsNeverUtf8 (text ++ bytes))
not_never-after text bytes utf8 some never =
    some (λ later is. never later (rw (append_assoc text bytes later) (IsUtf8-append text (bytes ++ later) utf8 is)))

-- ---- errors

is_read : (error : StreamError) → failed_read error ≡ 0 → error ≢ Read
is_read Read none same = absurd (omega (arith, none))
is_read (NotUtf8 place) none same = absurd (cc same)
is_read Memory none same = absurd (cc same)
is_read Sink none same = absurd (cc same)
is_read TooLong none same = absurd (cc same)

-- what a decoder's refusal says, where it is one of bytes
no_text-decoder : (e : DecodeError) (place taken : ℕ) (bytes : List ℕ) → e ≡ decoder.NotUtf8 place → (e ≡ decoder.Memory) ⊎ IsFault taken bytes e
    → (e ≢ decoder.Memory → IsNeverUtf8 bytes) → IsFault taken bytes (decoder.NotUtf8 place) × IsNeverUtf8 bytes
no_text-decoder e place taken bytes is (inl memory) never = absurd (cc (is, memory))
no_text-decoder e place taken bytes is (inr fault) never = (subst (IsFault taken bytes) is fault, never (λ memory. cc (is, memory)))

module _ {X S H : Type 0} (means : Means X S H) where
  -- what the source gave is a text that was fed, and what the decoder holds
  pub record HasRead (before now : Option (List ℕ)) (first t : Tokenizing X) (decoder : Decoding) : Type 0 where
    pub text : List ℕ
    pub given : Consumes before now (text ++ decoder.held)
    pub utf8 : IsUtf8 text
    pub cut : IsCutCharacter decoder.held
    pub taken : decoder.taken ≡ place_after 0 (length text)
    pub reads : ReadsOn means first t (chars text)
    pub rules : t.rules ≡ first.rules
    pub going_on : t.ended ≡ false
    pub not_failed : t.failed ≡ false

  -- at the start of a stream nothing was read
  pub HasRead-start : (known : Option (List ℕ)) (first : Tokenizing X) (decoder : Decoding) → decoder.held ≡ [] → decoder.taken ≡ 0
      → first.ended ≡ false → first.failed ≡ false → HasRead known known first first decoder
  HasRead-start known first decoder none start going_on not_failed =
      let zero : 0 ≡ place_after 0 (length {A = ℕ} []) = omega arith in
      record {
        text = [];
        given = subst (Consumes known known) (sym none) (Consumes-none known);
        utf8 = IsUtf8-nil;
        cut = subst IsCutCharacter (sym none) IsCutCharacter-nil;
        taken = start ∙ zero;
        reads = λ K s front stands. rw (chars-nil, append-nil front) stands;
        rules = refl;
        going_on = going_on;
        not_failed = not_failed;
      }

  -- one piece more was read, decoded and fed
  pub HasRead-more : (before now after : Option (List ℕ)) (first t u : Tokenizing X) (old new : Decoding) (more : List ℕ)
      → HasRead before now first t old → Consumes now after more → TakesBytes means old new t u more
      → HasRead before after first u new
  HasRead-more before now after first t u old new more had given takes =
      let whole : (had.text ++ old.held) ++ more ≡ (had.text ++ takes.text) ++ new.held =
      append_assoc had.text old.held more ∙ ap (λ l. had.text ++ l) takes.parts ∙ sym (append_assoc had.text takes.text new.held) in
      record {
        text = had.text ++ takes.text;
        given = subst (Consumes before after) whole (Consumes-append before now after (had.text ++ old.held) more had.given given);
        utf8 = IsUtf8-append _ _ had.utf8 takes.utf8;
        cut = takes.cut;
        taken = takes.taken ∙ ap (λ k. place_after k (length takes.text)) had.taken
            ∙ place_after-twice 0 (length had.text) (length takes.text) ∙ ap (place_after 0) (sym (length-append had.text takes.text));
        reads = λ K s front stands.
            rw (chars-append had.text takes.text had.utf8, ← append_assoc front (chars had.text) (chars takes.text))
            (takes.reads K s (front ++ chars had.text) (had.reads K s front stands));
        rules = takes.rules ∙ had.rules;
        going_on = takes.going_on;
        not_failed = takes.not_failed;
      }

  -- a read that gave nothing
  pub HasRead-nothing : (before now after : Option (List ℕ)) (first t : Tokenizing X) (decoder : Decoding) (n : ℕ) (buffer : List ℕ)
      → HasRead before now first t decoder → Consumes now after (take n buffer) → n ≡ 0 → HasRead before after first t decoder
  HasRead-nothing before now after first t decoder n buffer had given zero =
      let same : (had.text ++ decoder.held) ++ take n buffer ≡ had.text ++ decoder.held =
      ap (λ k. (had.text ++ decoder.held) ++ take k buffer) zero ∙ append-nil (had.text ++ decoder.held) in
      record {
        text = had.text;
        given = subst (Consumes before after) same (Consumes-append before now after (had.text ++ decoder.held) (take n buffer) had.given given);
        utf8 = had.utf8;
        cut = had.cut;
        taken = had.taken;
        reads = had.reads;
        rules = had.rules;
        going_on = had.going_on;
        not_failed = had.not_failed;
      }

  -- at the end of the source all of its text was fed
  pub HasRead-whole : (before after : Option (List ℕ)) (first t : Tokenizing X) (decoder : Decoding)
      → HasRead before after first t decoder → decoder.held ≡ [] → IsAtEnd after → TakesText means before after first t
  HasRead-whole before after first t decoder had none at_end =
      record {
        bytes = had.text;
        given = subst (Consumes before after) (ap (λ l. had.text ++ l) none ∙ append-nil had.text) had.given;
        at_end = at_end;
        utf8 = had.utf8;
        reads = had.reads;
        rules = had.rules;
      }

  -- the source ended within a character
  GivesNoText-cut : (before after : Option (List ℕ)) (first t : Tokenizing X) (held : Decoding)
      → HasRead before after first t held → ¬ (held.held ≡ []) → IsAtEnd after → GivesNoText held.taken before after
  GivesNoText-cut before after first t held had some at_end =
      let place : place_after 0 (length had.text) ≡ place_after 0 (length had.text + 0) = omega arith in
      record {
        bytes = had.text ++ held.held;
        given = had.given;
        fault = record {
          valid_len = length had.text + 0;
          valid = IsValidUpTo-after had.text held.held 0 had.utf8 (IsValidUpTo-cut held.held had.cut (some_bytes held.held some));
          named = ap decoder.NotUtf8 (had.taken ∙ place);
        };
        settled = inr at_end;
      }

  -- a piece is no text
  GivesNoText-piece : (before now after : Option (List ℕ)) (first t : Tokenizing X) (held : Decoding) (more : List ℕ) (place : ℕ)
      → HasRead before now first t held → Consumes now after more
      → IsFault held.taken (held.held ++ more) (decoder.NotUtf8 place) × IsNeverUtf8 (held.held ++ more) → GivesNoText place before after
  GivesNoText-piece before now after first t held more place had given (fault, never) =
      let n = fault.valid_len in
      record {
        bytes = had.text ++ (held.held ++ more);
        given = subst (Consumes before after) (append_assoc had.text held.held more)
            (Consumes-append before now after (had.text ++ held.held) more had.given given);
        fault = record {
          valid_len = length had.text + n;
          valid = IsValidUpTo-after had.text (held.held ++ more) n had.utf8 fault.valid;
          named = fault.named ∙ ap decoder.NotUtf8 (ap (λ k. place_after k n) had.taken ∙ place_after-twice 0 (length had.text) n);
        };
        settled = inl (IsNeverUtf8-after had.text (held.held ++ more) had.utf8 never);
      }

  -- the text was taken, and then the end was sent
  pub FinishesText-end : (before after : Option (List ℕ)) (t u : Tokenizing X) (v : S)
      → TakesText means before after t u → Finishes means u v
      → FinishesText means before after t v
  FinishesText-end before after t u v takes finishes =
      record {
        bytes = takes.bytes;
        given = takes.given;
        at_end = takes.at_end;
        utf8 = takes.utf8;
        finishes = λ K s front stands.
            subst (λ b. v ≡ state_at_end means b K s (front ++ chars takes.bytes)) takes.rules
            (finishes K s (front ++ chars takes.bytes) (takes.reads K s front stands));
      }

  -- from the start of a stream
  pub ReadsSource-start : (opts : OptionsOf) (references : List NamedReference) (before after : Option (List ℕ)) (t : Tokenizing X) (s v : S)
      → StandsAt means t (start_of opts) s [] → t.rules ≡ rules_of opts references → FinishesText means before after t v
      → ReadsSource means opts references s before after v
  ReadsSource-start opts references before after t s v stands same read =
      record {
        bytes = read.bytes;
        given = read.given;
        at_end = read.at_end;
        utf8 = read.utf8;
        told = subst (λ b. v ≡ state_at_end means b (start_of opts) s (chars read.bytes)) same (read.finishes (start_of opts) s [] stands);
      }

  -- a stop within a text is one within its reading from the start of a stream
  pub StopsSource-start : (opts : OptionsOf) (references : List NamedReference) (before after : Option (List ℕ)) (t : Tokenizing X) (s v : S)
      → StandsAt means t (start_of opts) s [] → t.rules ≡ rules_of opts references
      → (error : StreamError) → StopsText means error before after t v
      → StopsSource means error opts references s before after v
  StopsSource-start opts references before after t s v stands same error stops =
      record {
        text = stops.text;
        rest = stops.rest;
        given = stops.given;
        utf8 = stops.utf8;
        stopped = subst (λ b. SourceStops means error s (all_messages means b (start_of opts) s (chars stops.text)) v) same
            (stops.stopped (start_of opts) s [] stands);
        may_go_on = stops.may_go_on;
      }

  -- where a read failed, the sink was sent what the text up to there decides
  pub TellsGiven-start : {T : Type 0} (r : Result T StreamError) (opts : OptionsOf) (references : List NamedReference) (before after : Option (List ℕ)) (t : Tokenizing X) (s v : S)
      → StandsAt means t (start_of opts) s [] → t.rules ≡ rules_of opts references
      → IfErr r (λ error. StopsText means error before after t v) → r ≡ Err Read
      → TellsGiven means opts references s before after v
  TellsGiven-start r opts references before after t s v stands same stops is =
      let read = IfErr-at_err (λ error. StopsText means error before after t v) is stops in
      let decided = read.decided refl in
      record {
        text = read.text;
        rest = read.rest;
        given = read.given;
        utf8 = read.utf8;
        cut = decided.0;
        told = subst (λ b. v ≡ state_after means b (start_of opts) s (chars read.text)) same (decided.1 (start_of opts) s [] stands);
      }

  pub GivesNoText-stop : {T : Type 0} (r : Result T StreamError) (before after : Option (List ℕ)) (t : Tokenizing X) (v : S) (place : ℕ)
      → IfErr r (λ error. StopsText means error before after t v) → r ≡ Err (NotUtf8 place)
      → GivesNoText place before after
  GivesNoText-stop r before after t v place stops is =
      (IfErr-at_err (λ error. StopsText means error before after t v) is stops).no_text place refl

  -- no other answer than `NotUtf8` comes where the bytes have a fault
  pub GivesNoFault-read : {T : Type 0} (r : Result T StreamError) (before after : Option (List ℕ)) (t : Tokenizing X) (v : S)
      → OnOk r (FinishesText means before after t v) → IfErr r (λ error. StopsText means error before after t v)
      → ((place : ℕ) → r ≢ Err (NotUtf8 place)) → GivesNoFault before after
  GivesNoFault-read (Ok x) before after t v finishes stops other = record {
    bytes = finishes.bytes;
    given = finishes.given;
    may_go_on = subst (λ l. ¬ (IsNeverUtf8 l)) (append-nil finishes.bytes) (not_never-cut finishes.bytes [] finishes.utf8 IsCutCharacter-nil);
  }
  GivesNoFault-read (Err error) before after t v finishes stops other = record {
    bytes = stops.text ++ stops.rest;
    given = stops.given;
    may_go_on = stops.may_go_on (λ place same. other place (ap Err same));
  }

  StopsWithin-none : (s : S) (M : List Message) → StopsWithin means.step means.faulted s M s
  unfolding stepped
  StopsWithin-none s M = record { before = []; rest = M; parts = refl; state = refl }

  SourceStops-within : (error : StreamError) (s v : S) (M : List Message) → sink_fault error ≡ 0 → StopsWithin means.step means.faulted s M v
      → SourceStops means error s M v
  SourceStops-within Read s v M none stops = stops
  SourceStops-within (NotUtf8 place) s v M none stops = stops
  SourceStops-within Memory s v M none stops = stops
  SourceStops-within Sink s v M none stops = absurd (omega (arith, none))
  SourceStops-within TooLong s v M none stops = stops

  -- what was sent so far is a prefix of the reading
  stops-here : (t : Tokenizing X) (K : Start) (s : S) (text : List ℕ) → StandsAt means t K s text
      → StopsWithin means.step means.faulted s (all_messages means t.rules K s text) (means.state t.sink)
  stops-here t K s text stands =
      whole-end_stops means tokenizer.Memory t K s (means.state t.sink) text stands
      (StopsWithin-none (means.state t.sink) (told_at_end means t.rules K s text))

  -- a refused feed
  pub StopsTelling-feed : (e : TokenizerError) (t : Tokenizing X) (queue more : List ℕ) (v : S) → queue ≡ more
      → StopsReading means e t queue v → StopsTelling means (stream_error e) t more v
  StopsTelling-feed e t queue more v same stops K s front stands =
      SourceStops-end means e s v (all_messages means t.rules K s (front ++ more))
      (subst (λ l. EndStops means e s (all_messages means t.rules K s l) v)
      (append-nil (front ++ queue) ∙ ap (λ l. front ++ l) same)
      (whole-within_stops means e t K s v front queue [] stands (stops K s front stands)))

  -- a text that found no place
  pub StopsTelling-memory : (t : Tokenizing X) (more : List ℕ) → StopsTelling means Memory t more (means.state t.sink)
  StopsTelling-memory t more =
      StopsTelling-feed tokenizer.Memory t more more (means.state t.sink) refl
      (λ K s front stands. StopsWithin-none (means.state t.sink) (told_beyond means t.rules K s front more))

  -- a refused end
  pub StopsAtEnd-end : (e : TokenizerError) (t : Tokenizing X) (v : S) → StopsEnding means e t v
      → StopsAtEnd means (stream_error e) t v
  StopsAtEnd-end e t v stops K s front stands =
      SourceStops-end means e s v (all_messages means t.rules K s front)
      (whole-end_stops means e t K s v front stands (stops K s front stands))

  -- a piece that the decoder refused
  pub StopsBytes-decoder : (e : DecodeError) (error : StreamError) (old : Decoding) (t : Tokenizing X) (bytes : List ℕ)
      → (error ≡ of_decoder e) → sink_fault error ≡ 0 → (e ≡ decoder.Memory) ⊎ IsFault old.taken (old.held ++ bytes) e
      → (e ≢ decoder.Memory → IsNeverUtf8 (old.held ++ bytes)) → (IsNeverUtf8 (old.held ++ bytes) → e ≢ decoder.Memory)
      → StopsBytes means error old t bytes (means.state t.sink)
  StopsBytes-decoder e error old t bytes is none fault never refused =
      record {
        text = [];
        rest = old.held ++ bytes;
        parts = refl;
        utf8 = IsUtf8-nil;
        stopped = λ K s front stands.
            SourceStops-within error s (means.state t.sink) _ none (rw (chars-nil, append-nil front) (stops-here t K s front stands));
        no_text = λ place same. no_text-decoder e place old.taken (old.held ++ bytes) (decoder-place e place (sym is ∙ same)) fault never;
        may_go_on = λ other no_text. decoder-named e error is other (refused no_text);
      }

  -- a piece whose text was refused
  pub StopsBytes-fed : (error : StreamError) (old : Decoding) (t : Tokenizing X) (bytes text rest : List ℕ) (v : S)
      → old.held ++ bytes ≡ text ++ rest → IsUtf8 text → StopsTelling means error t (chars text) v
      → IsCutCharacter rest → ((place : ℕ) → error ≢ NotUtf8 place) → StopsBytes means error old t bytes v
  StopsBytes-fed error old t bytes text rest v parts utf8 stopped cut other =
      record {
        text = text;
        rest = rest;
        parts = parts;
        utf8 = utf8;
        stopped = stopped;
        no_text = λ place same. absurd (other place same);
        may_go_on = λ _. subst (λ l. ¬ (IsNeverUtf8 l)) (sym parts) (not_never-cut text rest utf8 cut);
      }

  -- nothing more was fed
  StopsText-here : (error : StreamError) (before now : Option (List ℕ)) (first t : Tokenizing X) (held : Decoding)
      → sink_fault error ≡ 0 → HasRead before now first t held → ((place : ℕ) → error ≡ NotUtf8 place → GivesNoText place before now)
      → StopsText means error before now first (means.state t.sink)
  StopsText-here error before now first t held none had no_text =
      record {
        text = had.text;
        rest = held.held;
        given = had.given;
        utf8 = had.utf8;
        stopped = λ K s front stands.
            SourceStops-within error s (means.state t.sink) (all_messages means first.rules K s (front ++ chars had.text)) none
            (subst (λ b. StopsWithin means.step means.faulted s (all_messages means b K s (front ++ chars had.text)) (means.state t.sink)) had.rules
            (stops-here t K s (front ++ chars had.text) (had.reads K s front stands)));
        no_text = no_text;
        may_go_on = λ _. not_never-cut had.text held.held had.utf8 had.cut;
        decided = λ _. (
          had.cut,
          λ K s front stands.
              (had.reads K s front stands).told ∙ ap (λ b. state_after means b K s (front ++ chars had.text)) had.rules,
        );
      }

  -- a read failed
  pub StopsText-read : (before now after : Option (List ℕ)) (first t : Tokenizing X) (held : Decoding)
      → HasRead before now first t held → Consumes now after []
      → StopsText means Read before after first (means.state t.sink)
  StopsText-read before now after first t held had given =
      StopsText-here Read before after first t held refl (HasRead-nothing before now after first t held 0 [] had given refl) (λ place same. absurd (cc same))

  -- the source ended within a character
  pub StopsText-cut : (e : DecodeError) (error : StreamError) (before now after : Option (List ℕ)) (first t : Tokenizing X) (held : Decoding) (n : ℕ) (buffer : List ℕ)
      → HasRead before now first t held → Consumes now after (take n buffer) → n ≡ 0 → IsAtEnd after → ¬ (held.held ≡ [])
      → error ≡ of_decoder e → e ≡ decoder.NotUtf8 held.taken
      → StopsText means error before after first (means.state t.sink)
  StopsText-cut e error before now after first t held n buffer had given none at_end some is place_is =
      let read = HasRead-nothing before now after first t held n buffer had given none in
      let named : error ≡ NotUtf8 held.taken = is ∙ ap of_decoder place_is in
      subst (λ x. StopsText means x before after first (means.state t.sink)) (sym named)
      (StopsText-here (NotUtf8 held.taken) before after first t held refl read
      (λ place same. subst (λ p. GivesNoText p before after) (ap place_in same) (GivesNoText-cut before after first t held read some at_end)))

  -- the reads were too many
  pub StopsText-long : (before after : Option (List ℕ)) (first t : Tokenizing X) (held : Decoding)
      → HasRead before after first t held → StopsText means TooLong before after first (means.state t.sink)
  StopsText-long before after first t held had =
      StopsText-here TooLong before after first t held refl had (λ place same. absurd (cc same))

  -- the last piece was refused
  pub StopsText-piece : (error : StreamError) (before now after : Option (List ℕ)) (first t : Tokenizing X) (held : Decoding) (more : List ℕ) (v : S)
      → HasRead before now first t held → Consumes now after more → failed_read error ≡ 0
      → StopsBytes means error held t more v
      → StopsText means error before after first v
  StopsText-piece error before now after first t held more v had given none stops =
      let whole : (had.text ++ held.held) ++ more ≡ (had.text ++ stops.text) ++ stops.rest =
      append_assoc had.text held.held more ∙ ap (λ l. had.text ++ l) stops.parts ∙ sym (append_assoc had.text stops.text stops.rest) in
      record {
        text = had.text ++ stops.text;
        rest = stops.rest;
        given = subst (Consumes before after) whole (Consumes-append before now after (had.text ++ held.held) more had.given given);
        utf8 = IsUtf8-append _ _ had.utf8 stops.utf8;
        stopped = λ K s front stands.
            subst (λ l. SourceStops means error s (all_messages means first.rules K s l) v)
            (append_assoc front (chars had.text) (chars stops.text) ∙ ap (λ l. front ++ l) (sym (chars-append had.text stops.text had.utf8)))
            (subst (λ b. SourceStops means error s (all_messages means b K s ((front ++ chars had.text) ++ chars stops.text)) v) had.rules
            (stops.stopped K s (front ++ chars had.text) (had.reads K s front stands)));
        no_text = λ place same. GivesNoText-piece before now after first t held more place had given (stops.no_text place same);
        may_go_on = λ other.
            subst (λ l. ¬ (IsNeverUtf8 l)) (sym (append_assoc had.text held.held more) ∙ whole)
            (not_never-after had.text (held.held ++ more) had.utf8 (stops.may_go_on other));
        decided = λ same. absurd (is_read error none same);
      }

  -- the end was refused
  StopsText-end : (error : StreamError) (before after : Option (List ℕ)) (t u : Tokenizing X) (v : S)
      → TakesText means before after t u → StopsAtEnd means error u v
      → ((place : ℕ) → error ≢ NotUtf8 place) → failed_read error ≡ 0 → StopsText means error before after t v
  StopsText-end error before after t u v takes stops other none =
      record {
        text = takes.bytes;
        rest = [];
        given = subst (Consumes before after) (sym (append-nil takes.bytes)) takes.given;
        utf8 = takes.utf8;
        stopped = λ K s front stands.
            subst (λ b. SourceStops means error s (all_messages means b K s (front ++ chars takes.bytes)) v) takes.rules
            (stops K s (front ++ chars takes.bytes) (takes.reads K s front stands));
        no_text = λ place same. absurd (other place same);
        may_go_on = λ _. not_never-cut takes.bytes [] takes.utf8 IsCutCharacter-nil;
        decided = λ same. absurd (is_read error none same);
      }

  pub StopsText-result : {T : Type 0} (r : Result T StreamError) (before after : Option (List ℕ)) (t u : Tokenizing X) (v : S)
      → TakesText means before after t u
      → IfErr r (λ error. StopsAtEnd means error u v)
      → IfErr r (λ error. (place : ℕ) → error ≢ NotUtf8 place) → failed_reads r ≡ 0
      → IfErr r (λ error. StopsText means error before after t v)
  StopsText-result (Ok x) before after t u v takes stops other none = tt
  StopsText-result (Err error) before after t u v takes stops other none = StopsText-end error before after t u v takes stops other none
