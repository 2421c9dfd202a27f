-- The forms of the errors that the tokenizer tells.
use Rattle.std.specs.Prelude.{◌≡◌, ◌⊎◌, ℕ, Bool, List}
use Rattle.html5ever_interface.specs.Message.{fixed_text}
use Rattle.html5ever_interface.specs.States.{state_name}
use Rattle.html5ever_interface.specs.Token.{Told}
use Rattle.html5ever_interface.specs.Token.Told.{Error}
use Rattle.html5ever_interface.specs.declared.interface.message.FixedMessage.{FixedMessage}
use Rattle.html5ever_interface.specs.declared.states.State.{State}
use Rattle.html5reading.specs.ErrorText.{saw, saw_end}

-- a state saw a character, or the end, or the message names nothing of the text
abbrev pub HasForm : Bool → List ℕ → Type 0
HasForm exact message =
    ((S : State) × (c : ℕ) × (message ≡ saw exact c (state_name S)))
    ⊎ (((S : State) × (message ≡ saw_end exact (state_name S)))
    ⊎ ((m : FixedMessage) × (message ≡ fixed_text m)))

-- a token that is not an error, or one of such a form
abbrev pub IsFormed : Bool → Told → Type 0
IsFormed exact (Error message) = HasForm exact message
IsFormed exact other = Unit {0}
