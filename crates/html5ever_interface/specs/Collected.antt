-- What a collector keeps of what it is sent, and what each token does to it.
use Rattle.std.specs.Prelude.{ℕ, Bool, true, false, List, [], ◌∷◌, ◌++◌, Option, Some, None}
use Rattle.html5ever_interface.specs.Sink.{Message}
use Rattle.html5ever_interface.specs.Token.{Told, Reply, told_by}
use Rattle.html5ever_interface.specs.Token.Told.{Text}
use Rattle.html5ever_interface.specs.Token.Reply.{KeepOn}
use Rattle.html5ever_interface.specs.declared.interface.token.Token.{Token}

-- what was collected
pub record Collected : Type 0 where
  -- the tokens, with their lines
  pub messages : List Message
  -- no token follows
  pub finished : Bool
  -- the answer to the question about foreign content
  pub foreign : Bool

-- what was collected, and how many tokens could not be kept
pub record Collecting : Type 0 where
  pub collected : Collected
  pub faults : ℕ

-- nothing collected
abbrev pub none_collected : Bool → Collected
none_collected foreign = record { messages = []; finished = false; foreign = foreign }

-- the answer about foreign content
abbrev pub collected_foreign : Collected → Bool
collected_foreign collected = collected.foreign

-- the message of an entry
abbrev pub message_of : {Z : Type 0} → Token Z × ℕ → Message
message_of entry = record { token = told_by entry.0; line = entry.1 }

-- the text of a token, where it is one
abbrev pub told_text : Told → Option (List ℕ)
told_text (Text text) = Some text
told_text other = None

-- a text as it is kept: its line is 0
abbrev pub kept_text : List ℕ → Message
kept_text text = record { token = Text text; line = 0 }

-- the last message and a text after it, where `before` is the text of that message. Two texts are one, on the line of the first.
abbrev pub last_with_text : Option (List ℕ) → Message → List ℕ → List Message
last_with_text (Some before) last text = record last { token = Text (before ++ text) } ∷ []
last_with_text None last text = last ∷ kept_text text ∷ []

-- `m` and the messages after it, and then a text
unfoldable pub from_first_with_text : Message → List Message → List ℕ → List Message
from_first_with_text m [] text = last_with_text (told_text m.token) m text
from_first_with_text m (n ∷ ms) text = m ∷ from_first_with_text n ms text

-- messages and then a text, which the last one takes up where it is a text
unfoldable pub with_text : List Message → List ℕ → List Message
with_text [] text = kept_text text ∷ []
with_text (m ∷ ms) text = from_first_with_text m ms text

-- messages and then another one, where the option is its text. An empty text is dropped.
unfoldable pub with_message : List Message → Option (List ℕ) → Message → List Message
with_message ms None m = ms ++ m ∷ []
with_message ms (Some []) m = ms
with_message ms (Some (b ∷ bs)) m = with_text ms (b ∷ bs)

-- messages and then a token
abbrev pub with_told : List Message → Told → ℕ → List Message
with_told ms told line = with_message ms (told_text told) (record { token = told; line = line })

-- what a token does to what was collected
abbrev pub collected_step : Collected → Told → ℕ → Collected
collected_step c told line = record c { messages = with_told c.messages told line }

-- no tag gets another reply
abbrev pub collected_reply : {H : Type 0} → Collected → Told → ℕ → Reply H
collected_reply c told line = KeepOn

-- a token that could not be kept leaves nothing
abbrev pub collected_faulted : Collected → Told → ℕ → Collected
collected_faulted c told line = c

-- what the end does to what was collected
abbrev pub collected_finish : Collected → Collected
collected_finish c = record c { finished = true }
