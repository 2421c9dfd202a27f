-- What a sink of records makes of what it is sent.
--
-- The abstract state is all that was ever written, how many of these bytes were taken, and whether a text is open at their end.
-- What the sink is sent changes no count of taken bytes: so no tokenizer takes any. A text is written as it is sent and ends where
-- another token comes, so that two adjacent texts are as one.
use Rattle.std.specs.Prelude.{◌≡◌, ℕ, ◌+◌, Bool, true, false, List, [], ◌∷◌, ◌++◌, drop}
use Rattle.html5records.specs.Records.{text_end, record_of}
use Rattle.markup5ever.specs.Lists.{BeginsWith}
use Rattle.html5ever_interface.specs.Collected.{with_told}
use Rattle.html5ever_interface.specs.Sink.{Means, Message, stepped}
use Rattle.html5ever_interface.specs.Token.{Told, Reply}
use Rattle.html5ever_interface.specs.Token.Told.{Tag, Text}
use Rattle.html5ever_interface.specs.Token.Reply.{KeepOn, ReadPlainText, ReadRawData, RunScript, SwitchEncoding}
use Rattle.html5records.specs.declared.record_sink.PausedAt.{PausedAt}
use Rattle.html5records.specs.declared.record_sink.PausedAt.TheVariants as paused
use Rattle.html5records.specs.declared.record_sink.Replies.{Replies}
use Rattle.html5records.specs.declared.record_sink.Replies.TheVariants.{None, Standard, Pausing, Caller}
use Rattle.html5sinks.specs.Pausing.{pausing_reply}
use Rattle.html5sinks.specs.Replies.{standard_reply}
use Rattle.html5sinks.specs.Runs.{reply_where_tag}

-- the abstract state of the sink
pub record Recorded : Type 0 where
  -- the bytes written so far
  pub bytes : List ℕ
  -- how many of them were taken
  pub taken : ℕ
  -- a text is open at their end
  pub in_text : Bool
  -- how tags are replied to, and the answer about foreign content
  pub replies : Replies
  pub foreign : Bool

-- a sink: its state, and how many tokens could not be written
pub record Recording : Type 0 where
  pub recorded : Recorded
  pub faults : ℕ

-- the bytes that wait: all but those that were taken
abbrev pub waiting : Recorded → List ℕ
waiting r = drop r.taken r.bytes

-- this many bytes more were taken, and all else is as it was
abbrev pub taking : Recorded → ℕ → Recorded
taking r count = record r { taken = r.taken + count }

-- nothing written
abbrev pub none_recorded : Replies → Bool → Recorded
none_recorded replies foreign = record { bytes = []; taken = 0; in_text = false; replies = replies; foreign = foreign }

abbrev pub nothing_recorded : Replies → Bool → Recording
nothing_recorded replies foreign = record { recorded = none_recorded replies foreign; faults = 0 }

-- what comes before the first bytes of a text, where `in_text` says that a text is open
abbrev pub text_opening : Bool → List ℕ
text_opening true = []
text_opening false = 3 ∷ []

-- what comes before the record of another token
abbrev pub text_closing : Bool → List ℕ
text_closing true = text_end ∷ []
text_closing false = []

-- what a text adds
unfoldable pub added_by_text : Bool → List ℕ → List ℕ
added_by_text in_text [] = []
added_by_text in_text (b ∷ bs) = text_opening in_text ++ b ∷ bs

-- what a token adds
unfoldable pub added_by : Bool → Told → ℕ → List ℕ
added_by in_text (Text text) line = added_by_text in_text text
added_by in_text other line = text_closing in_text ++ record_of other line

-- whether a text is open after a token
unfoldable pub open_after : Bool → Told → Bool
open_after in_text (Text []) = in_text
open_after in_text (Text (b ∷ bs)) = true
open_after in_text other = false

unfoldable pub recorded_step : Recorded → Told → ℕ → Recorded
recorded_step r told line =
    record r { bytes = r.bytes ++ added_by r.in_text told line; in_text = open_after r.in_text told }

-- a reply that pauses for a script says so
abbrev pub at_script : Reply (Unit {0}) → Reply PausedAt
at_script KeepOn = KeepOn
at_script ReadPlainText = ReadPlainText
at_script (ReadRawData kind) = ReadRawData kind
at_script (RunScript handle) = RunScript paused.Script
at_script (SwitchEncoding text) = SwitchEncoding text

-- a pause after each tag
abbrev pub pause_after_tag : Told → Reply PausedAt
pause_after_tag (Tag tag) = RunScript paused.Tag
pause_after_tag other = KeepOn

-- the reply to what the sink is sent: if none is wanted it is to read on
abbrev pub reply_by : Replies → Told → Reply PausedAt
reply_by None told = KeepOn
reply_by Standard told = at_script (reply_where_tag standard_reply told)
reply_by Pausing told = at_script (pausing_reply told)
reply_by Caller told = pause_after_tag told

abbrev pub recorded_reply : Recorded → Told → ℕ → Reply PausedAt
recorded_reply r told line = reply_by r.replies told

-- the answer about foreign content
abbrev pub recorded_foreign : Recorded → Bool
recorded_foreign r = r.foreign

-- a token that could not be written leaves nothing
abbrev pub recorded_faulted : Recorded → Told → ℕ → Recorded
recorded_faulted r told line = r

-- what a sink of records makes of what it is sent
abbrev pub recorded_means : Means Recording Recorded PausedAt
recorded_means = record {
  state = λ s. s.recorded;
  step = recorded_step;
  reply = recorded_reply;
  foreign = recorded_foreign;
  finish = λ r. r;
  faulted = recorded_faulted;
  end_faulted = λ r. r;
}

-- the sink once this many bytes more were taken
abbrev pub after_taking : Recording → ℕ → Recording
after_taking e count = record e { recorded = taking e.recorded count }

-- the sink with another answer about foreign content
abbrev pub with_foreign : Recording → Bool → Recording
with_foreign e foreign = record e { recorded = record e.recorded { foreign = foreign } }

-- no byte more was taken, and what was written stays, with more after it: so what is taken next is what it was, and goes on
pub record WritesOn (old new : Recorded) : Type 0 where
  pub taken : new.taken ≡ old.taken
  pub bytes : BeginsWith new.bytes old.bytes

-- all that was written, once the open text is ended
abbrev pub closed_bytes : Recorded → List ℕ
closed_bytes r = r.bytes ++ text_closing r.in_text

-- messages with their texts joined, where empty texts are gone, and the line of a text is 0
abbrev pub joined : List Message → List Message
joined messages = stepped with_told [] messages
