-- What is spelled: characters, each with what is sent there.
use Rattle.std.specs.Prelude.{ℕ, Bool, List, [], ◌∷◌, ◌++◌, map}
use Rattle.html5ever_interface.specs.Sink.{Message, on_line}
use Rattle.html5ever_interface.specs.Token.{Told}
use Rattle.html5reading.specs.ErrorText.{bad_character_error}
use Rattle.html5reading.specs.NormalisedText.{line_after}
use Rattle.html5reading.specs.Start.{Input}
use Rattle.html5reading.specs.Slice.{silent}

-- a character with what is sent there, besides a bad character
pub record Spelled : Type 0 where
  pub character : ℕ
  pub told : List Told

-- characters, each of which tells its own
abbrev pub spell : (ℕ → List Told) → List ℕ → List Spelled
spell tells run = map (λ c. record { character = c; told = tells c }) run

-- characters that tell nothing
abbrev pub spell_silent : List ℕ → List Spelled
spell_silent run = spell silent run

-- the messages of characters, each on the line that is reached with it, where `before` stands before them
unfoldable pub spelled_messages : Bool → Input → List ℕ → List Spelled → List Message
spelled_messages exact input before [] = []
spelled_messages exact input before (here ∷ more) =
    on_line (line_after input (before ++ here.character ∷ [])) (bad_character_error exact here.character ++ here.told)
    ++ spelled_messages exact input (before ++ here.character ∷ []) more
