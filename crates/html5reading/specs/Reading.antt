-- The reading of a text: its events, which of them its characters decide, and the start after it. It walks from slice to slice;
-- `sound` of `html5grammar` says that its messages are those of the items.
use Rattle.std.specs.Prelude.{ℕ, suc, leb, ◌-◌, Bool, true, false, List, [], ◌∷◌, ◌++◌, length, map, take_while, if◌then◌else◌}
use Rattle.html5ever_interface.specs.Sink.{Means, Message, stepped, on_line}
use Rattle.html5ever_interface.specs.Token.{Told, TagOf, Reply}
use Rattle.html5ever_interface.specs.Token.Told.{Tag}
use Rattle.html5ever_interface.specs.Token.Reply.{KeepOn, ReadPlainText, ReadRawData, RunScript, SwitchEncoding}
use Rattle.html5reading.specs.Comment.{declaration_by_answer}
use Rattle.html5reading.specs.Cutting.{rest_of, slice_at}
use Rattle.html5reading.specs.EndOfInput.{late_at_end_of, open_at_end_of, told_at_end_of}
use Rattle.html5reading.specs.ErrorText.{bad_character_error}
use Rattle.html5reading.specs.NormalisedText.{normalised, line_after, input_after}
use Rattle.html5reading.specs.Slice.{Slice, Cell, Afterwards, Late, no_character, cut_off, tokens_of_late}
use Rattle.html5reading.specs.Slice.Cell.{Says, Ends, Returns}
use Rattle.html5reading.specs.Slice.Afterwards.{Leaves, Settles, Asks}
use Rattle.html5reading.specs.Start.{Input, Start, Open, Rules, raw_of}
use Rattle.html5reading.specs.Start.Mode.{Data, Plain, RawText}
use Rattle.html5reading.specs.Start.Open.{Between, InDeclaration}
use Rattle.html5reading.specs.Tag.{is_end_tag}

-- a character of the normalised text, counted from 0, the place directly before it, or the end of input
pub data TextPlace : Type 0 where
  Character : ℕ → TextPlace
  BeforeCharacter : ℕ → TextPlace
  EndOfInput : TextPlace

abbrev pub is_character : TextPlace → Bool
is_character (Character k) = true
is_character (BeforeCharacter k) = true
is_character EndOfInput = false

-- one of the first n characters
abbrev pub is_among : ℕ → TextPlace → Bool
is_among n (Character k) = leb (suc k) n
is_among n (BeforeCharacter k) = leb (suc k) n
is_among n EndOfInput = false

-- a message, the place where it stands, and the place that decides it
pub record Event : Type 0 where
  pub message : Message
  pub stands : TextPlace
  pub decided_by : TextPlace

-- the events of tokens that are sent at the place of c, with `before` in front of it
unfoldable pub events_at : Input → List ℕ → ℕ → List Told → List Event
events_at input before c tokens =
    let place = Character (length before) in
    let event : Told → Event = λ token. record {
      message = record { token = token; line = line_after input (before ++ c ∷ []) };
      stands = place;
      decided_by = place;
    } in
    map event tokens

-- the events of what `decided_by` decides, after the text `before`. A reference's own tokens stand before the first character
-- that it doesn't take. Characters that were held stand at their places. The error of a declaration stands at its `!`, and that
-- of a keyword at its first character. There is no line break among them.
abbrev pub late_event : Input → List ℕ → TextPlace → Late → Event
late_event input before decided_by late =
    let k : ℕ = suc (length before) - late.back in
    record {
      message = record { token = late.token; line = line_after input before };
      stands = if late.is_at then Character k else BeforeCharacter k;
      decided_by = if late.is_held then Character k else decided_by;
    }

unfoldable pub late_events : Input → List ℕ → TextPlace → List Late → List Event
late_events input before decided_by late = map (late_event input before decided_by) late

-- what is sent at a character, besides the error of a bad one, and how the text goes on after it
pub data Here (G : Type 0) : Type 0 where
  Tells : List Told → G → Here G
  -- a tag is sent last, and the sink's reply chooses
  TellsTag : List Told → TagOf → Here G

-- what a character brings: first what it decides, and then what is sent at it
pub record Brought (G : Type 0) : Type 0 where
  pub settled : List Late
  pub here : Here G

-- what is sent at the first character of a slice, which `text` follows
abbrev pub at_first : Rules → List ℕ → List Cell → Afterwards → Here Slice
at_first rules text (Says told ∷ cells) afterwards = Tells told (record { cells = cells; afterwards = afterwards })
at_first rules text (Ends told tag ∷ cells) afterwards = TellsTag told tag
at_first rules text (Returns late opened ∷ cells) afterwards = Tells [] (rest_of rules opened text)
at_first rules text [] afterwards = Tells [] (no_character afterwards)

unfoldable pub here : Rules → Slice → ℕ → List ℕ → Here Slice
here rules slice c text =
    let next : Slice = slice_at rules slice.cells slice.afterwards c text in
    at_first rules text next.cells next.afterwards

-- what a character brings where the sink is not asked
abbrev pub brought_without_answer : Rules → List Cell → Afterwards → ℕ → List ℕ → Brought Slice
brought_without_answer rules [] (Settles late opened) c text =
    record { settled = late; here = here rules (rest_of rules opened (c ∷ text)) c text }
brought_without_answer rules (Returns late opened ∷ cells) afterwards c text =
    record { settled = late; here = Tells [] (rest_of rules opened text) }
brought_without_answer rules cells afterwards c text = record { settled = []; here = here rules (record { cells = cells; afterwards = afterwards }) c text }

-- the sink's answer about foreign content decides where it is asked
abbrev pub brought_by : Rules → Bool → List Cell → Afterwards → ℕ → List ℕ → Brought Slice
brought_by rules foreign [] (Asks held) c text =
    let asked : Slice = declaration_by_answer rules.exact foreign held c text in
    brought_without_answer rules asked.cells asked.afterwards c text
brought_by rules foreign cells afterwards c text = brought_without_answer rules cells afterwards c text

unfoldable pub brought : Rules → Bool → Slice → ℕ → List ℕ → Brought Slice
brought rules foreign slice c text = brought_by rules foreign slice.cells slice.afterwards c text

-- the events of a text, and what is open after it, with the name of the last start tag
pub record Read : Type 0 where
  pub events : List Event
  pub opened : Open
  pub last_start_tag : List ℕ

abbrev pub with_events : List Event → Read → Read
with_events events read = record { events = events ++ read.events; opened = read.opened; last_start_tag = read.last_start_tag }

-- what is open after the last character of a text
abbrev pub open_after : Afterwards → Open
open_after (Leaves before opened) = opened
open_after (Settles late opened) = opened
open_after (Asks held) = InDeclaration held

-- the name of the last start tag after a tag
unfoldable pub last_after : List ℕ → TagOf → List ℕ
last_after last tag = if is_end_tag tag.kind then last else tag.name

-- what is open after a tag, by the sink's reply and the name of the last start tag
abbrev pub open_after_reply : {H : Type 0} → List ℕ → Reply H → Open
open_after_reply last KeepOn = Between Data
open_after_reply last ReadPlainText = Between Plain
open_after_reply last (ReadRawData kind) = Between (RawText (raw_of kind) last)
open_after_reply last (RunScript handle) = Between Data
open_after_reply last (SwitchEncoding text) = Between Data

module _ {S H : Type 0} (step : S → Told → ℕ → S) (reply : S → Told → ℕ → Reply H) (foreign : S → Bool) (rules : Rules) (K : Start) where
  -- the events at the place of c, and those after it, which `rest` reads from a sink's state and what goes on
  abbrev pub read_here : {G : Type 0} → (S → List ℕ → G → Read) → (Open → G) → S → List ℕ → List ℕ → ℕ → Here G → Read
  read_here rest begin s last before c (Tells told goes_on) =
      let tokens : List Told = bad_character_error rules.exact c ++ told in
      with_events (events_at K.input before c tokens) (rest (stepped step s (on_line (line_after K.input (before ++ c ∷ [])) tokens)) last goes_on)
  read_here rest begin s last before c (TellsTag told tag) =
      let tokens : List Told = bad_character_error rules.exact c ++ told in
      let line : ℕ = line_after K.input (before ++ c ∷ []) in
      let t : S = stepped step s (on_line line tokens) in
      let name : List ℕ = last_after last tag in
      with_events (events_at K.input before c (tokens ++ Tag tag ∷ []))
      (rest (step t (Tag tag) line) name (begin (open_after_reply name (reply t (Tag tag) line))))

  -- the events at the places of a text, with `before` in front of it. The sink has the state s, and the last start tag had the
  -- name `last`. Nothing is sent between a `<!` and the sink's answer about foreign content, so the sink is asked in the state after
  -- all events before the `<!`.
  unfoldable pub read_from : S → List ℕ → List ℕ → Slice → List ℕ → Read
  read_from s last before slice [] = record { events = []; opened = open_after slice.afterwards; last_start_tag = last }
  read_from s last before slice (c ∷ text) =
      let next : Brought Slice = brought rules (foreign s) slice c text in
      with_events (late_events K.input before (Character (length before)) next.settled)
      (read_here (λ t name rest. read_from t name (before ++ c ∷ []) rest text) cut_off
      (stepped step s (on_line (line_after K.input before) (tokens_of_late next.settled))) last before c next.here)

  -- the events that the characters of X decide, and what is open after them
  unfoldable pub read : S → List ℕ → Read
  read s X = let Y = normalised K.input X in read_from s K.last_start_tag [] (rest_of rules K.opened Y) Y

  -- what the end of input tells after Y
  unfoldable pub end_events : Open → List ℕ → List Event
  end_events opened Y =
      let event : Told → Event = λ token. record {
        message = record { token = token; line = line_after K.input Y };
        stands = EndOfInput;
        decided_by = EndOfInput;
      } in
      late_events K.input Y EndOfInput (late_at_end_of rules opened) ++ map event (told_at_end_of rules.exact (open_at_end_of rules opened))

  -- all events of the text X, taken as ended
  unfoldable pub reading : S → List ℕ → List Event
  reading s X = (read s X).events ++ end_events (read s X).opened (normalised K.input X)

  -- the events before the first that the end decides: those are sent however the text goes on
  unfoldable pub told : S → List ℕ → List Event
  told s X = take_while (λ e. is_character e.decided_by) (reading s X)

  -- the start after X
  abbrev pub after : S → List ℕ → Start
  after s X = record { opened = (read s X).opened; last_start_tag = (read s X).last_start_tag; input = input_after K.input X }

abbrev pub messages : List Event → List Message
messages E = map (λ e. e.message) E

-- the same for a sink, from the start K and the sink's state s
module _ {X S H : Type 0} (means : Means X S H) (rules : Rules) (K : Start) (s : S) where
  -- the messages of a text's reading
  abbrev pub all_messages : List ℕ → List Message
  all_messages text = messages (reading means.step means.reply means.foreign rules K s text)

  -- the messages that the characters of a text decide
  abbrev pub messages_so_far : List ℕ → List Message
  messages_so_far text = messages (told means.step means.reply means.foreign rules K s text)

  -- the sink's state where it was sent those
  abbrev pub state_after : List ℕ → S
  state_after text = stepped means.step s (messages_so_far text)

  -- the start after a text
  abbrev pub start_after : List ℕ → Start
  start_after text = after means.step means.reply means.foreign rules K s text
