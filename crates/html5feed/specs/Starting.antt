-- In which states a stream can start, or go on.
use Rattle.std.specs.Prelude.{Option, Some, IfSome, IsTrue}
use Rattle.html5ever_interface.specs.States.{is_text_state}
use Rattle.html5ever_interface.specs.declared.states.State.{State}
use Rattle.html5reading.specs.Start.{Start, initial_mode}
use Rattle.html5reading.specs.Start.Open.{Between}

-- a stream can start in this state: none is chosen, or one for which `State::is_text` is true
abbrev pub CanStart : Option State → Type 0
CanStart chosen = IfSome chosen (λ state. IsTrue (is_text_state state))

-- where a stream goes on that is read in this state from here on, after the last start tag that it has
abbrev pub in_state : Start → State → Start
in_state K state = record K { opened = Between (initial_mode (Some state) K.last_start_tag) }
