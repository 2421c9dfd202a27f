-- What the numbers of the options say.
use Rattle.std.specs.Prelude.{◌==◌, ◌&&◌, ◌||◌, ℕ, Bool, not, List, [], ◌∷◌, Option, None, Some, is_some, if◌then◌else◌}
use Rattle.html5handle.specs.declared.options.Options.{Options}
use Rattle.html5records.specs.declared.record_sink.Replies.{Replies}
use Rattle.html5records.specs.declared.record_sink.Replies.TheVariants as reply
use Rattle.html5ever_interface.specs.Options.{OptionsOf}
use Rattle.html5ever_interface.specs.declared.states.RawKind.TheVariants.{Rcdata, Rawtext, ScriptData}
use Rattle.html5ever_interface.specs.declared.states.State.{State}
use Rattle.html5ever_interface.specs.declared.states.State.TheVariants.{Data, Plaintext, RawData, CdataSection}

-- the state that a number names, if one does
abbrev pub state_said : ℕ → Option State
state_said n =
    if n == 0 then Some Data
    else if n == 1 then Some Plaintext
    else if n == 2 then Some (RawData Rcdata)
    else if n == 3 then Some (RawData Rawtext)
    else if n == 4 then Some (RawData ScriptData)
    else if n == 5 then Some CdataSection
    else None

-- the replies that a number names, if one does
abbrev pub replies_said : ℕ → Option Replies
replies_said n =
    if n == 0 then Some reply.Standard
    else if n == 1 then Some reply.None
    else if n == 2 then Some reply.Pausing
    else if n == 3 then Some reply.Caller
    else None

-- whether a page can be read so: with places only by the standard's replies, where the content is not foreign
abbrev pub places_said : Options → Bool
places_said o = not o.places || ((o.replies == 0) && not o.foreign)

-- each number in the options names something, and the page can be read so
abbrev pub are_named : Options → Bool
are_named o = is_some (replies_said o.replies) && (is_some (state_said o.state) && places_said o)

-- each number names something, and tokens are recorded without their places
abbrev pub are_recorded : Options → Bool
are_recorded o = are_named o && not o.places

-- each number names something, and tokens are recorded with their places
abbrev pub are_placed : Options → Bool
are_placed o = are_named o && o.places

-- the name of the last start tag: none if it has no bytes
abbrev pub name_said : List ℕ → Option (List ℕ)
name_said [] = None
name_said (b ∷ bytes) = Some (b ∷ bytes)

-- how the tokenizer reads, after a start tag of this name, if there is one
abbrev pub options_by : Options → Option (List ℕ) → OptionsOf
options_by o name = record {
  exact_errors = o.exact_errors;
  discard_bom = not o.keep_bom;
  initial_state = state_said o.state;
  last_start_tag_name = name;
}

abbrev pub options_said : Options → List ℕ → OptionsOf
options_said o name = options_by o (name_said name)
