-- Where a tokenizer stands in a text, and what its calls make of that.
use Rattle.std.specs.Prelude.{◌≡◌, ℕ, Bool, true, false, List, [], ◌++◌, ◌⊎◌}
use Rattle.html5ever_interface.specs.Options.{OptionsOf}
use Rattle.html5ever_interface.specs.Sink.{Means, Message, stepped}
use Rattle.html5ever_interface.specs.Token.{Reply}
use Rattle.html5reading.specs.Reading.{all_messages, state_after, start_after}
use Rattle.html5reading.specs.Start.{Start, Rules, start_of, nothing_open, held_len}
use Rattle.html5grammar.specs.Items.{ToldItems, FinishedItems}
use Rattle.html5ever.specs.Pauses.{TakesByItems}
use Rattle.html5feed.specs.Feed.{Feed, told_beyond, told_at_end, feed, IsEndOf, IsLinear}
use Rattle.html5feed.specs.Refused.{RefusedAfter}
use Rattle.html5states.specs.Telling.{Stops, StopsWithin, FaultsWithin}
use Rattle.html5partial.specs.declared.error.TokenizerError.{TokenizerError}
use Rattle.html5partial.specs.declared.error.TokenizerError.TheVariants.{Memory, Sink, Failed}
use Rattle.markup5ever.specs.BufferQueue.{TextQueue}
use Rattle.markup5ever.specs.NamedReferences.{NamedReference}

-- what contracts see of a tokenizer
pub record Tokenizing (X : Type 0) : Type 0 where
  pub sink : X
  -- what it reads by
  pub rules : Rules
  -- the start of what is read next
  pub position : Start
  -- an earlier call was refused
  pub failed : Bool
  -- the sink was sent the end of input
  pub ended : Bool

-- what a tokenizer with these options and this table reads by
abbrev pub rules_of : OptionsOf → List NamedReference → Rules
rules_of opts references = record { exact = opts.exact_errors; references = references }

-- what a feed does to the queue, also if it is refused: it puts nothing in, and takes from the front
pub record TakesFront {X : Type 0} (before after : Tokenizing X) (queue left : TextQueue) : Type 0 where
  -- what is left is a suffix of the text that waited
  pub end_of_queue : IsEndOf left.text queue.text
  pub handed_in : left.handed_in ≡ queue.handed_in
  -- at most two characters were taken for each that waited and left the queue
  pub linear : IsLinear (held_len before.position.opened) queue (held_len after.position.opened) left

-- ---- whole readings

module _ {X S H : Type 0} (means : Means X S H) where
  -- the sink's state after it was sent the whole reading of a text, and finished
  abbrev pub state_at_end : Rules → Start → S → List ℕ → S
  state_at_end rules K s text = means.finish (stepped means.step s (all_messages means rules K s text))

  -- the same from the start of a stream, by these options and this table
  abbrev pub finished_reading : OptionsOf → List NamedReference → S → List ℕ → S
  finished_reading opts references state text = state_at_end (rules_of opts references) (start_of opts) state text

  -- from the start of a stream, by these options and this table, the sink was sent exactly what a text's items and its end tell,
  -- and then finished
  abbrev pub FinishedByItems : OptionsOf → List NamedReference → S → List ℕ → S → Type 0
  FinishedByItems opts references state text t = FinishedItems means (rules_of opts references) (start_of opts) state text t

  -- what a refused end leaves of the messages that it tells, or a refused reading of a whole text. The sink may also fault at its
  -- own end.
  abbrev pub EndStops : TokenizerError → S → List Message → S → Type 0
  EndStops Memory s M t = StopsWithin means.step means.faulted s M t
  EndStops Sink s M t = FaultsWithin means.step means.faulted s M t ⊎ (t ≡ means.end_faulted (stepped means.step s M))
  EndStops Failed s M t = ⊥

  -- from the start of a stream, by these options and this table, the reading of a text stopped so
  abbrev pub StoppedReading : OptionsOf → List NamedReference → TokenizerError → S → List ℕ → S → Type 0
  StoppedReading opts references e state text t = EndStops e state (all_messages means (rules_of opts references) (start_of opts) state text) t

-- ---- where a tokenizer stands

module _ {X S H : Type 0} (means : Means X S H) where
  -- the tokenizer stands where the text taken, from the start K and the sink's state s, leaves it
  pub record StandsAt (t : Tokenizing X) (K : Start) (s : S) (text : List ℕ) : Type 0 where
    -- the sink was sent exactly the decided beginning
    pub told : means.state t.sink ≡ state_after means t.rules K s text
    -- the rest is read from the start after the text
    pub position : t.position ≡ start_after means t.rules K s text
    pub not_failed : t.failed ≡ false
    pub not_ended : t.ended ≡ false

  -- from wherever it stood, the tokenizer was taken further by `more`
  abbrev pub ReadsOn : Tokenizing X → Tokenizing X → List ℕ → Type 0
  ReadsOn old new more = (K : Start) (s : S) (text : List ℕ) → StandsAt old K s text → StandsAt new K s (text ++ more)

  -- after `text` the tokenizer took what `fed` takes, the queue holds what it leaves, and its reply was handed on
  pub record FedFrom (fed : Feed H) (t : Tokenizing X) (K : Start) (s : S) (text queue : List ℕ) (reply : Reply H) : Type 0 where
    pub stands : StandsAt t K s (text ++ fed.taken)
    pub answer : reply ≡ fed.answer
    pub left : queue ≡ fed.left

  -- from wherever it stood, the tokenizer was fed a queue's text. It took a prefix, `left` waits, and that reply was handed
  -- on.
  abbrev pub Feeds : Tokenizing X → Tokenizing X → List ℕ → List ℕ → Reply H → Type 0
  Feeds old new queue left reply =
      (K : Start) (s : S) (text : List ℕ) → StandsAt old K s text → FedFrom (feed means old.rules K s text queue) new K s text left reply

  -- from wherever the tokenizer stood, the sink was sent the whole reading, and then finished
  abbrev pub Finishes : Tokenizing X → S → Type 0
  Finishes old t = (K : Start) (s : S) (text : List ℕ) → StandsAt old K s text → t ≡ state_at_end means old.rules K s text

  -- from wherever the tokenizer stood, the sink was sent the reading of what was taken and `more`, and then finished
  abbrev pub ReadsWhole : Tokenizing X → List ℕ → S → Type 0
  ReadsWhole old more t =
      (K : Start) (s : S) (text : List ℕ) → StandsAt old K s text → t ≡ state_at_end means old.rules K s (text ++ more)

  -- ---- by items: when nothing was open at the start K, the text after it is items, and at most one unfinished one

  -- after `more`, the sink was sent exactly what the items tell
  abbrev pub ReadsItems : Tokenizing X → Tokenizing X → List ℕ → Type 0
  ReadsItems old new more =
      (K : Start) (s : S) (text : List ℕ) → nothing_open K.opened ≡ true → StandsAt old K s text
      → ToldItems means old.rules K s (text ++ more) (means.state new.sink)

  -- after `text` the tokenizer took the prefix of the queue's text that its items say, `left` waits, and that reply was handed on.
  -- The sink was sent exactly what the items of all that was taken tell.
  pub record FedByItems (old new : Tokenizing X) (K : Start) (s : S) (text queue left : List ℕ) (reply : Reply H) : Type 0 where
    pub taken : List ℕ
    pub takes : TakesByItems means old.rules K s text queue taken left reply
    pub told : ToldItems means old.rules K s (text ++ taken) (means.state new.sink)
    pub stands : StandsAt new K s (text ++ taken)

  -- a feed of a queue's text, likewise
  abbrev pub FeedsItems : Tokenizing X → Tokenizing X → List ℕ → List ℕ → Reply H → Type 0
  FeedsItems old new queue left reply =
      (K : Start) (s : S) (text : List ℕ) → nothing_open K.opened ≡ true → StandsAt old K s text → FedByItems old new K s text queue left reply

  -- the sink was sent what the items and the end tell, and then finished
  abbrev pub FinishesItems : Tokenizing X → S → Type 0
  FinishesItems old t =
      (K : Start) (s : S) (text : List ℕ) → nothing_open K.opened ≡ true → StandsAt old K s text → FinishedItems means old.rules K s text t

  -- ---- refused calls

  -- from wherever it stood, the tokenizer stopped within what `more` tells
  abbrev pub StopsReading : TokenizerError → Tokenizing X → List ℕ → S → Type 0
  StopsReading e old more t =
      (K : Start) (s : S) (text : List ℕ) → StandsAt old K s text
      → Stops means.step means.faulted e (means.state old.sink) (told_beyond means old.rules K s text more) t

  -- after `text` a feed of a queue's text was refused, where `fed` says what the feed would have done
  pub record StopsFrom (e : TokenizerError) (fed : Feed H) (t : Tokenizing X) (K : Start) (s : S) (text queue left : List ℕ) (v : S) : Type 0 where
    -- it stopped within what it would have sent, and so before any pause
    pub stops : Stops means.step means.faulted e (means.state t.sink) (told_beyond means t.rules K s text fed.taken) v
    -- a prefix of the queue's text is gone. All that it tells was sent, except for the last item, within which the feed stopped.
    pub refused : RefusedAfter means t.rules e K s text queue left v

  -- from wherever it stood, the tokenizer was refused a feed of a queue's text. It stopped within that, and `left` waits.
  abbrev pub StopsFeeding : TokenizerError → Tokenizing X → List ℕ → List ℕ → S → Type 0
  StopsFeeding e old queue left v =
      (K : Start) (s : S) (text : List ℕ) → StandsAt old K s text → StopsFrom e (feed means old.rules K s text queue) old K s text queue left v

  -- from wherever it stood, the tokenizer stopped within what the end tells
  abbrev pub StopsEnding : TokenizerError → Tokenizing X → S → Type 0
  StopsEnding e old t =
      (K : Start) (s : S) (text : List ℕ) → StandsAt old K s text
      → EndStops means e (means.state old.sink) (told_at_end means old.rules K s text) t

  -- from the start of a text, the tokenizer stopped within the reading of `more`
  abbrev pub StopsWhole : TokenizerError → Tokenizing X → List ℕ → S → Type 0
  StopsWhole e old more t =
      (K : Start) (s : S) → StandsAt old K s [] → EndStops means e s (all_messages means old.rules K s more) t
