-- Why raw text can't be written.
use Rattle.std.specs.Prelude.{ℕ, not, List, Option, None, Some, if◌then◌else◌}
use Rattle.std.specs.List.{list_all}
use Rattle.std.specs.Option.{option_or}
use Rattle.html5ever_interface.specs.declared.states.RawKind.{RawKind}
use Rattle.html5ever_interface.specs.declared.states.RawKind.TheVariants.{Rcdata, Rawtext, ScriptData, ScriptDataEscaped}
use Rattle.html5reading.specs.Lawful.{has_no_null}
use Rattle.html5serialize.specs.RawTexts.{has_end, is_raw_name, may_hide}
use Rattle.html5serialize.specs.declared.error.RawTextError.{RawTextError}
use Rattle.html5serialize.specs.declared.error.RawTextError.TheVariants.{Name, Character, EndTag, Mark, Escaped}
use Rattle.html5write.specs.Pieces.{is_comment_character}

-- what is wrong with a text that is written as it is
unfoldable pub plain_refusal : List ℕ → List ℕ → Option RawTextError
plain_refusal name text =
    if not (list_all is_comment_character text) then Some Character else if has_end name text then Some EndTag else None

unfoldable pub mark_refusal : List ℕ → Option RawTextError
mark_refusal text = if may_hide text then Some Mark else None

unfoldable pub text_refusal : RawKind → List ℕ → List ℕ → Option RawTextError
text_refusal Rcdata name text = if has_no_null text then None else Some Character
text_refusal Rawtext name text = plain_refusal name text
text_refusal ScriptData name text = option_or (plain_refusal name text) (mark_refusal text)
text_refusal (ScriptDataEscaped kind) name text = Some Escaped

unfoldable pub raw_refusal : RawKind → List ℕ → List ℕ → Option RawTextError
raw_refusal kind name text = if is_raw_name name then text_refusal kind name text else Some Name
