-- "Parse errors": the errors that a text tells, with their messages in bytes.
use Rattle.std.specs.Prelude.{ℕ, Bool, List, [], ◌∷◌, ◌++◌, ◌&&◌, codes, encode_utf8, if◌then◌else◌}
use Rattle.html5ever_interface.specs.States.{state_name}
use Rattle.html5ever_interface.specs.Token.{Told}
use Rattle.html5ever_interface.specs.Token.Told.{Error}
use Rattle.html5ever_interface.specs.declared.states.State.{State}
use Rattle.html5reading.specs.Characters.{is_bad_character}

-- "Parse errors": the message of a character that a state doesn't expect
unfoldable pub saw : Bool → ℕ → List ℕ → List ℕ
saw exact c state = if exact then codes "Bad character" else codes "Saw " ++ (encode_utf8 c ++ (codes " in state " ++ state))

-- "Parse errors": the message of an end of input that a state doesn't expect
unfoldable pub saw_end : Bool → List ℕ → List ℕ
saw_end exact state = if exact then codes "Unexpected EOF" else codes "Saw EOF in state " ++ state

-- "Preprocessing the input stream": the message of a control or a noncharacter in the input
unfoldable pub bad_character : ℕ → List ℕ
bad_character c = codes "Bad character " ++ encode_utf8 c

-- the error of a character in a state
abbrev pub error_in : Bool → State → ℕ → Told
error_in exact state c = Error (saw exact c (state_name state))

-- the error of the end of input in a state
abbrev pub end_error_in : Bool → State → Told
end_error_in exact state = Error (saw_end exact (state_name state))

-- the error, if there is one
abbrev pub where_true : Bool → Told → List Told
where_true holds error = if holds then error ∷ [] else []

-- "Preprocessing the input stream": with exact errors a bad character is an error, before all else that it brings
abbrev pub bad_character_error : Bool → ℕ → List Told
bad_character_error exact c = where_true (exact && is_bad_character c) (Error (bad_character c))
