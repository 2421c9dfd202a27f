-- Runs: characters that are read at once. Each of them tells itself alone, or is put to the open name or value.
use Rattle.std.specs.Prelude.{◌≡◌, ◌≢◌, ℕ, Bool, true, false, not, ◌==◌, ◌&&◌, ◌||◌, nat_lt, List, [], ◌∷◌, ◌++◌, All, Contains, Option, None, Some, codes, flat_map, map, encode_utf8, if◌then◌else◌}
use Rattle.html5ever_interface.specs.Token.{Told}
use Rattle.html5ever_interface.specs.Token.Told.{Text}
use Rattle.html5ever_interface.specs.declared.states.AttrValueKind.{AttrValueKind}
use Rattle.html5ever_interface.specs.declared.states.AttrValueKind.TheVariants.{Unquoted, SingleQuoted, DoubleQuoted}
use Rattle.html5reading.specs.Characters.{null, tab, line_feed, form_feed, carriage_return, space, quotation_mark, ampersand, apostrophe, hyphen, solidus, less_than, equals_sign, greater_than, value_bytes}
use Rattle.html5reading.specs.Start.{Open}
use Rattle.html5reading.specs.Start.Dashes.{NoDash}
use Rattle.html5reading.specs.Start.Raw.{Rcdata, Rawtext, ScriptData, Escaped, DoubleEscaped}
use Rattle.html5reading.specs.Start.Mode.{Data, Plain, RawText}
use Rattle.html5reading.specs.Start.Open.{Between, InTag, InComment, InBogusComment, InInstruction, InCdata}
use Rattle.html5reading.specs.Start.Place.{InName, InAttributeName, InValue}
use Rattle.html5reading.specs.Comment.{ends_in}
use Rattle.html5reading.specs.Reference.{with_value}
use Rattle.html5reading.specs.Tag.{with_name, with_last_name}

-- "Attribute value (double-quoted) state" and the two others: the characters that end a run in a value, besides NUL and CR
abbrev pub other_value_ends : AttrValueKind → List ℕ
other_value_ends DoubleQuoted = line_feed ∷ quotation_mark ∷ ampersand ∷ []
other_value_ends SingleQuoted = line_feed ∷ apostrophe ∷ ampersand ∷ []
other_value_ends Unquoted = line_feed ∷ tab ∷ form_feed ∷ space ∷ ampersand ∷ greater_than ∷ []

-- where runs are read, the characters that end one, besides NUL and CR. A run of text between tags goes on over LF.
abbrev pub other_run_ends : Open → Option (List ℕ)
other_run_ends (Between Data) = Some (less_than ∷ ampersand ∷ [])
other_run_ends (Between Plain) = Some []
other_run_ends (Between (RawText Rcdata name)) = Some (less_than ∷ ampersand ∷ [])
other_run_ends (Between (RawText Rawtext name)) = Some (less_than ∷ [])
other_run_ends (Between (RawText ScriptData name)) = Some (less_than ∷ [])
other_run_ends (Between (RawText (Escaped NoDash) name)) = Some (hyphen ∷ less_than ∷ [])
other_run_ends (Between (RawText (DoubleEscaped NoDash) name)) = Some (hyphen ∷ less_than ∷ [])
other_run_ends (InTag InName tag) = Some (line_feed ∷ tab ∷ form_feed ∷ space ∷ solidus ∷ greater_than ∷ [])
other_run_ends (InTag InAttributeName tag) =
    Some (line_feed ∷ tab ∷ form_feed ∷ space ∷ solidus ∷ greater_than ∷ equals_sign ∷ quotation_mark ∷ apostrophe ∷ less_than ∷ [])
other_run_ends (InTag (InValue kind) tag) = Some (other_value_ends kind)
other_run_ends (InComment text) = if ends_in text (codes "-") then None else Some (line_feed ∷ hyphen ∷ greater_than ∷ [])
other_run_ends (InBogusComment text) = Some (line_feed ∷ greater_than ∷ [])
other_run_ends (InInstruction content) = Some (line_feed ∷ greater_than ∷ [])
other_run_ends (InCdata text) = Some (line_feed ∷ greater_than ∷ [])
other_run_ends other = None

-- the characters that end a run
abbrev pub run_ends : List ℕ → List ℕ
run_ends others = null ∷ carriage_return ∷ others

-- characters that can be read at once where this is open
pub record IsRunAt (opened : Open) (run : List ℕ) : Type 0 where
  pub others : List ℕ
  pub has_runs : other_run_ends opened ≡ Some others
  pub filled : run ≢ []
  pub ordinary : All (λ c. ¬ Contains (run_ends others) c) run

-- "Tag name state" and "Attribute name state": whether a byte of a run stands in a name as it is. It is no capital letter and not
-- "Attribute value (unquoted) state": where errors are exact, odd characters are errors in such a value
abbrev pub is_unquoted : Open → Bool
is_unquoted (InTag (InValue Unquoted) tag) = true
is_unquoted other = false

-- NUL.
abbrev pub stays_in_names : ℕ → Bool
stays_in_names byte = not (byte == null) && (nat_lt byte 65 || not (nat_lt byte 91))

-- what is open after a run
abbrev pub opened_after_run : Open → List ℕ → Open
opened_after_run (InTag InName tag) run = InTag InName (with_name tag run)
opened_after_run (InTag InAttributeName tag) run = InTag InAttributeName (with_last_name tag run)
opened_after_run (InTag (InValue kind) tag) run = InTag (InValue kind) (with_value tag run)
opened_after_run (InComment text) run = InComment (text ++ flat_map value_bytes run)
opened_after_run (InBogusComment text) run = InBogusComment (text ++ flat_map value_bytes run)
opened_after_run (InInstruction content) run = InInstruction (content ++ flat_map value_bytes run)
opened_after_run (InCdata text) run = InCdata (text ++ run)
opened_after_run other run = other

-- what a run tells: between tags each character is a text
abbrev pub run_tokens : Open → List ℕ → List Told
run_tokens (Between mode) run = map (λ c. Text (encode_utf8 c)) run
run_tokens other run = []
