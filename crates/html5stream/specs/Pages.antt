-- What a handler of tags, or of runs of text, makes of a page: by the default options, from a source that is read to its end.
use Rattle.std.specs.Prelude.{◌≡◌, ℕ, false, List, [], ◌++◌, Option}
use Rattle.std.specs.Io.KnownBytes.{Consumes, IsAtEnd}
use Rattle.std.specs.Str.{IsUtf8, chars}
use Rattle.markup5ever.specs.NamedReferences.{NamedReference}
use Rattle.html5ever_interface.specs.Options.{default_options}
use Rattle.html5ever_interface.specs.Sink.{Means, Message, stepped}
use Rattle.html5ever_interface.specs.Token.{TagOf, Told}
use Rattle.html5reading.specs.Reading.{all_messages}
use Rattle.html5reading.specs.Start.{start_of}
use Rattle.html5grammar.specs.Items.{Items}
use Rattle.html5ever.specs.Tokenizer.{rules_of}
use Rattle.html5sinks.specs.Replies.{standard_reply}
use Rattle.html5sinks.specs.Tags.{Tagged, tags_step, tags_reply}
use Rattle.html5sinks.specs.Runs.{Running, joined_of, runs_step, runs_reply}

-- a source and a state round a call: what was unread before it and is left after it, and the state before it and after it
pub record Passage (S : Type 0) : Type 0 where
  pub unread : Option (List ℕ)
  pub left : Option (List ℕ)
  pub before : S
  pub after : S

-- the passage of a source, before the call and after it, and of a state
abbrev pub passage_of : {R S : Type 0} → (R → Option (List ℕ)) → R → R → S → S → Passage S
passage_of remaining source source_after state state_after = record {
  unread = remaining source;
  left = remaining source_after;
  before = state;
  after = state_after;
}

-- the source was read to its end, what it gave is UTF-8, and the state became what the bytes make of it
pub record ReadsPage {S : Type 0} (afterwards : S → List ℕ → S) (known : Passage S) : Type 0 where
  pub bytes : List ℕ
  pub consumed : Consumes known.unread known.left bytes
  pub at_end : IsAtEnd known.left
  pub utf8 : IsUtf8 bytes
  pub told : known.after ≡ afterwards known.before bytes

-- the same by items: the text of the page is items that tell `tells`, and its end tells `ends`, and the state became what these make
-- of it
pub record ReadsPageItems {S : Type 0} (composes : S → List ℕ → List Message → List Message → Type 0) (handed : S → List Message → S)
    (known : Passage S) : Type 0 where
  pub bytes : List ℕ
  pub consumed : Consumes known.unread known.left bytes
  pub at_end : IsAtEnd known.left
  pub utf8 : IsUtf8 bytes
  pub tells : List Message
  pub ends : List Message
  pub items : composes known.before bytes tells ends
  pub told : known.after ≡ handed known.before (tells ++ ends)

-- the source gave a text first, and the state became what a prefix of that text's messages makes of it, or of what else it is read into
pub record StopsPage {M S : Type 0} (page : S → List ℕ → List M) (handed : S → List M → S) (known : Passage S) : Type 0 where
  pub text : List ℕ
  pub rest : List ℕ
  pub consumed : Consumes known.unread known.left (text ++ rest)
  pub utf8 : IsUtf8 text
  pub told : List M
  pub untold : List M
  pub parts : page known.before text ≡ told ++ untold
  pub state : known.after ≡ handed known.before told

-- what a sink of tags makes of what it is sent, and what a sink of runs does, where a handler replies as the standard does
module _ {X S : Type 0} where
  abbrev pub tags_means : (X → Tagged S) → (S → TagOf → ℕ → S) → Means X (Tagged S) (Unit {0})
  tags_means state step = record {
    state = state;
    step = tags_step step;
    reply = tags_reply (λ s tag line. standard_reply tag);
    foreign = λ s. s.foreign;
    finish = λ s. s;
    faulted = λ s told line. s;
    end_faulted = λ s. s;
  }

  abbrev pub runs_means : (X → Running S) → (S → List ℕ → Told → ℕ → S) → Means X (Running S) (Unit {0})
  runs_means state step = record {
    state = state;
    step = runs_step step;
    reply = runs_reply (λ s run tag line. standard_reply tag);
    foreign = λ s. s.foreign;
    finish = λ s. s;
    faulted = λ s told line. s;
    end_faulted = λ s. s;
  }

module _ {S : Type 0} where
  -- where a sink of tags starts
  abbrev pub tags_start : S → Tagged S
  tags_start s = record { handler = s; foreign = false }

  -- the messages of a page whose bytes are given, as a handler of tags is sent them
  unfoldable pub tags_page : (S → TagOf → ℕ → S) → List NamedReference → S → List ℕ → List Message
  tags_page step references s bytes =
      all_messages (tags_means (λ t. t) step) (rules_of default_options references) (start_of default_options) (tags_start s) (chars bytes)

  -- the items of such a page
  abbrev pub TagsItems : (S → TagOf → ℕ → S) → List NamedReference → S → List ℕ → List Message → List Message → Type 0
  TagsItems step references s bytes tells ends =
      Items (tags_means (λ t. t) step) (rules_of default_options references) (start_of default_options) (tags_start s) (chars bytes) tells ends

  -- a handler after some messages: it was handed each tag of them
  unfoldable pub tags_handed : (S → TagOf → ℕ → S) → S → List Message → S
  tags_handed step s told = (stepped (tags_step step) (tags_start s) told).handler

  -- and after a whole page
  abbrev pub tags_after : (S → TagOf → ℕ → S) → List NamedReference → S → List ℕ → S
  tags_after step references s bytes = tags_handed step s (tags_page step references s bytes)

  -- where a sink of runs starts
  abbrev pub runs_start : S → Running S
  runs_start s = record { joined = joined_of s []; foreign = false }

  -- the messages of a page whose bytes are given, as a handler of runs is sent them
  unfoldable pub runs_page : (S → List ℕ → Told → ℕ → S) → List NamedReference → S → List ℕ → List Message
  runs_page step references s bytes =
      all_messages (runs_means (λ t. t) step) (rules_of default_options references) (start_of default_options) (runs_start s) (chars bytes)

  -- the items of such a page
  abbrev pub RunsItems : (S → List ℕ → Told → ℕ → S) → List NamedReference → S → List ℕ → List Message → List Message → Type 0
  RunsItems step references s bytes tells ends =
      Items (runs_means (λ t. t) step) (rules_of default_options references) (start_of default_options) (runs_start s) (chars bytes) tells ends

  -- a handler after some messages: it was handed each run of text that another token of them ends, with that token
  unfoldable pub runs_handed : (S → List ℕ → Told → ℕ → S) → S → List Message → S
  runs_handed step s told = (stepped (runs_step step) (runs_start s) told).joined.handler

  -- and after a whole page
  abbrev pub runs_after : (S → List ℕ → Told → ℕ → S) → List NamedReference → S → List ℕ → S
  runs_after step references s bytes = runs_handed step s (runs_page step references s bytes)
