-- What a feed takes of the text that waits, what it answers, and what it may cost. What the sink is sent of a text that goes on
-- or ends.
use Rattle.std.specs.Prelude.{◌≡◌, ℕ, ◌+◌, ◌*◌, ◌≤◌, Bool, true, false, List, [], ◌∷◌, ◌++◌, length, drop, if◌then◌else◌}
use Rattle.html5ever_interface.specs.Sink.{Means, Message}
use Rattle.html5ever_interface.specs.Token.{Reply}
use Rattle.html5ever_interface.specs.Token.Reply.{KeepOn, RunScript, SwitchEncoding}
use Rattle.html5reading.specs.Reading.{all_messages, messages_so_far, state_after}
use Rattle.html5reading.specs.Start.{Start, Rules}
use Rattle.markup5ever.specs.BufferQueue.{TextQueue}
use Rattle.markup5ever.specs.declared.tokenizer_result.TokenizerResult.{TokenizerResult}
use Rattle.markup5ever.specs.declared.tokenizer_result.TokenizerResult.TheVariants.{Done, Script, EncodingIndicator}

-- whether the tokenizer pauses after a tag that gets this reply
abbrev pub pauses : {H : Type 0} → Reply H → Bool
pauses (RunScript handle) = true
pauses (SwitchEncoding text) = true
pauses other = false

-- the reply that an answer hands on: one that pauses, or none, where `bytes` are those of a text
abbrev pub reply_in : {H T : Type 0} → (T → List ℕ) → TokenizerResult H T → Reply H
reply_in bytes Done = KeepOn
reply_in bytes (Script handle) = RunScript handle
reply_in bytes (EncodingIndicator text) = SwitchEncoding (bytes text)

-- the prefix of the queue's text that one feed takes, the rest that it leaves, and the reply that it hands on
pub record Feed (H : Type 0) : Type 0 where
  pub taken : List ℕ
  pub left : List ℕ
  pub answer : Reply H

-- a feed that takes a text first
abbrev pub takes_before : {H : Type 0} → List ℕ → Feed H → Feed H
takes_before text feed = record { taken = text ++ feed.taken; left = feed.left; answer = feed.answer }

-- a feed of c and a text. It ends after c where the reply there pauses, and else it is c and then the feed `rest`.
unfoldable pub up_to_pause : {H : Type 0} → Reply H → ℕ → List ℕ → Feed H → Feed H
up_to_pause reply c text rest =
    if pauses reply then record { taken = c ∷ []; left = text; answer = reply }
    else takes_before (c ∷ []) rest

module _ {X S H : Type 0} (means : Means X S H) where
  -- what the sink is sent of a text that goes on, beyond what it was sent of the text before
  abbrev pub told_beyond : Rules → Start → S → List ℕ → List ℕ → List Message
  told_beyond rules K s text more = drop (length (messages_so_far means rules K s text)) (messages_so_far means rules K s (text ++ more))

  -- what the sink is sent at the end of a text, beyond what it was sent of it before
  abbrev pub told_at_end : Rules → Start → S → List ℕ → List Message
  told_at_end rules K s text = drop (length (messages_so_far means rules K s text)) (all_messages means rules K s text)

  -- the first reply to some messages that pauses, or to keep on if none does
  unfoldable pub first_pause : S → List Message → Reply H
  first_pause s [] = KeepOn
  first_pause s (m ∷ M) =
      if pauses (means.reply s m.token m.line) then means.reply s m.token m.line else first_pause (means.step s m.token m.line) M

  -- the reply that pauses at c, after a text, where one does
  abbrev pub pause_at : Rules → Start → S → List ℕ → ℕ → Reply H
  pause_at rules K s text c = first_pause (state_after means rules K s text) (told_beyond rules K s text (c ∷ []))

  -- what a feed of a queue's text does after `text`: it ends after the first tag whose reply pauses
  unfoldable pub feed : Rules → Start → S → List ℕ → List ℕ → Feed H
  feed rules K s text [] = record { taken = []; left = []; answer = KeepOn }
  feed rules K s text (c ∷ queue) = up_to_pause (pause_at rules K s text c) c queue (feed rules K s (text ++ c ∷ []) queue)

-- what is left of a text is a suffix of it
pub record IsEndOf (left text : List ℕ) : Type 0 where
  pub front : List ℕ
  pub parts : text ≡ front ++ left

-- at most two characters were taken for each that left the queue. Held characters of a reference count too, before and after.
abbrev pub IsLinear : ℕ → TextQueue → ℕ → TextQueue → Type 0
IsLinear held old held_after new = (new.taken + held_after) + 2 * length new.text ≤ (old.taken + held) + 2 * length old.text
