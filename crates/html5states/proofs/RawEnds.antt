-- What the end tells in escaped script data.
use Rattle.std.proofs.Common.{◌≡◌, Bool, [], ◌∷◌, refl}
use Rattle.html5ever_interface.specs.declared.states.ScriptEscapeKind.{ScriptEscapeKind}
use Rattle.html5ever_interface.specs.declared.states.ScriptEscapeKind.TheVariants as escape_kind
use Rattle.html5reading.specs.EndOfInput.{raw_end_error}
use Rattle.html5reading.specs.ErrorText.{end_error_in}
use Rattle.html5reading.specs.RawText.{raw_state, escaped_state}
use Rattle.html5reading.specs.Start.{Dashes, escaped}

pub raw_end_error-escaped : (exact : Bool) (kind : ScriptEscapeKind) (dashes : Dashes)
    → raw_end_error exact (escaped kind dashes) ≡ end_error_in exact (escaped_state kind dashes) ∷ []
unfolding raw_end_error raw_state
raw_end_error-escaped exact escape_kind.Escaped dashes = refl
raw_end_error-escaped exact escape_kind.DoubleEscaped dashes = refl
