-- What reading one character tells, and what is open after it.
use Rattle.std.specs.Prelude.{◌≡◌, List, Result, Ok, Err}
use Rattle.html5ever_interface.specs.Token.{Told, TagOf}
use Rattle.html5reading.specs.Reading.{Here}
use Rattle.html5reading.specs.Reading.Here.{Tells, TellsTag}
use Rattle.html5reading.specs.Start.{Open}
use Rattle.html5reading.specs.Start.Mode.{Data}
use Rattle.html5reading.specs.Start.Open.{Between}
use Rattle.html5reading.specs.Tag.{told_tag}
use Rattle.html5partial.specs.CharRef.{HasStand, begun_reference}
use Rattle.html5partial.specs.CurrentTag.{open_tag, opened_of}
use Rattle.html5partial.specs.declared.opened.Opened.{Opened}
use Rattle.html5partial.specs.declared.opened.Progress.{Progress}
use Rattle.html5partial.specs.declared.opened.Progress.TheVariants.{Continues, BeginsReference, EndsTag}
use Rattle.html5partial.specs.declared.error.TokenizerError.{TokenizerError}
use Rattle.html5partial.specs.declared.error.TokenizerError.TheVariants.{Memory, Sink, Failed}

-- the tokens that are sent at a character, before the tag that it ends
unfoldable pub tokens_of : Here Open → List Told
tokens_of (Tells told later) = told
tokens_of (TellsTag told tag) = told

-- what is after a character. Either something is open, or a tag has ended, and this is open unless the sink's reply chooses.
pub data Next : Type 0 where
  Opens : Open → Next
  Closes : TagOf → Open → Next

-- what is after a character
unfoldable pub afterwards : Here Open → Next
afterwards (Tells told later) = Opens later
afterwards (TellsTag told tag) = Closes tag (Between Data)

-- a call that reads a character leads there
abbrev pub Leads : {T : Type 0} → Result T TokenizerError → Open → Open → Type 0
Leads (Ok x) now later = now ≡ later
Leads (Err Memory) now later = Unit {0}
Leads (Err Sink) now later = Unit {0}
Leads (Err Failed) now later = ⊥

-- what is after a character, where a call answers so and leaves this open
abbrev pub next_of : {Z : Type 0} → Progress → Opened Z → Next
next_of Continues at = Opens (opened_of at)
next_of BeginsReference at = Opens (begun_reference (opened_of at))
next_of EndsTag at = Closes (told_tag (open_tag at.tag) at.tag.indexed.self_closing) (opened_of at)

-- "Character reference state": a reference begins only where one can stand
abbrev pub BeginsWhereItCan : Progress → Open → Type 0
BeginsWhereItCan BeginsReference opened = HasStand opened
BeginsWhereItCan progress opened = Unit {0}

-- a call that may end a tag leads there
abbrev pub Ends : {Z : Type 0} → Result Progress TokenizerError → Opened Z → Next → Type 0
Ends (Ok progress) at next = (next_of progress at ≡ next) × BeginsWhereItCan progress (opened_of at)
Ends (Err Memory) at next = Unit {0}
Ends (Err Sink) at next = Unit {0}
Ends (Err Failed) at next = ⊥
