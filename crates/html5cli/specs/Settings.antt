-- The settings that the words of the command line say. A word is its bytes.
use Rattle.std.specs.Prelude.{ℕ, ◌^◌, Bool, true, false, List, [], ◌∷◌, ◌&&◌, nat_lt, Option, None, Some, codes, if◌then◌else◌}
use Rattle.std.specs.Option.{option_map, option_and_then, option_or}
use Rattle.std.specs.Str.{bytes_eq, all_ascii_digits}
use Rattle.std.specs.Str.Parse.{digits_value}
use Rattle.html5table.specs.Listed.{listed, entries_in}
use Rattle.html5table.specs.Profile.{profile_entries}
use Rattle.markup5ever.specs.NamedReferences.{NamedReference}
use Rattle.html5ever_interface.specs.Options.{OptionsOf, default_options}
use Rattle.html5ever_interface.specs.declared.states.State.{State}
use Rattle.html5ever_interface.specs.declared.states.State.TheVariants.{Data, Plaintext, RawData, CdataSection}
use Rattle.html5ever_interface.specs.declared.states.RawKind.TheVariants.{Rcdata, Rawtext, ScriptData}
use Rattle.html5cli.specs.declared.settings.Settings.{Settings}

pub record SettingsOf : Type 0 where
  pub opts : OptionsOf
  -- the sink's answer about foreign content
  pub foreign : Bool
  -- how many characters are fed at once, and 0 for a number of the program's own
  pub cut : ℕ
  -- the entries of the table
  pub table : List NamedReference

-- the options that the settings give a tokenizer
abbrev pub options_said : Settings → OptionsOf
options_said settings = record {
  exact_errors = settings.exact_errors;
  discard_bom = settings.discard_bom;
  initial_state = settings.initial_state;
  last_start_tag_name = option_map (λ name. name.now) settings.last;
}

abbrev pub said_by : Settings → SettingsOf
said_by settings = record { opts = options_said settings; foreign = settings.foreign; cut = settings.cut; table = entries_in settings.table.now }

-- the settings before the first word
abbrev pub unsaid : SettingsOf
unsaid = record { opts = default_options; foreign = false; cut = 0; table = profile_entries }

abbrev pub with_exact_errors : SettingsOf → SettingsOf
with_exact_errors s = record s { opts = record s.opts { exact_errors = true } }

abbrev pub with_byte_order_mark : SettingsOf → SettingsOf
with_byte_order_mark s = record s { opts = record s.opts { discard_bom = false } }

abbrev pub with_foreign : SettingsOf → SettingsOf
with_foreign s = record s { foreign = true }

abbrev pub with_state : SettingsOf → State → SettingsOf
with_state s state = record s { opts = record s.opts { initial_state = Some state } }

abbrev pub with_last : SettingsOf → List ℕ → SettingsOf
with_last s name = record s { opts = record s.opts { last_start_tag_name = Some name } }

abbrev pub with_cut : SettingsOf → ℕ → SettingsOf
with_cut s cut = record s { cut = cut }

abbrev pub with_table : SettingsOf → List NamedReference → SettingsOf
with_table s entries = record s { table = entries }

-- the state of that name
unfoldable pub state_said : List ℕ → Option State
state_said name =
    if bytes_eq name (codes "data") then Some Data
    else if bytes_eq name (codes "plaintext") then Some Plaintext
    else if bytes_eq name (codes "rcdata") then Some (RawData Rcdata)
    else if bytes_eq name (codes "rawtext") then Some (RawData Rawtext)
    else if bytes_eq name (codes "script") then Some (RawData ScriptData)
    else if bytes_eq name (codes "cdata") then Some CdataSection
    else None

-- a number in decimal digits, at least 1 and below 2 ^ 32
unfoldable pub cut_said : List ℕ → Option ℕ
cut_said digits =
    let cut = digits_value 10 digits in
    if all_ascii_digits digits && nat_lt cut (2 ^ 32) && nat_lt 0 cut then Some cut else None

-- a word that stands alone
unfoldable pub flag_said : SettingsOf → List ℕ → Option SettingsOf
flag_said s word =
    if bytes_eq word (codes "--exact") then Some (with_exact_errors s)
    else if bytes_eq word (codes "--keep-bom") then Some (with_byte_order_mark s)
    else if bytes_eq word (codes "--foreign") then Some (with_foreign s)
    else None

-- a word with a value after it
unfoldable pub value_said : SettingsOf → List ℕ → List ℕ → Option SettingsOf
value_said s word value =
    if bytes_eq word (codes "--state") then option_map (with_state s) (state_said value)
    else if bytes_eq word (codes "--last") then Some (with_last s value)
    else if bytes_eq word (codes "--cut") then option_map (with_cut s) (cut_said value)
    else if bytes_eq word (codes "--table") then option_map (with_table s) (listed value)
    else None

-- what the words say after those that said s, if they say anything
unfoldable pub said_after : SettingsOf → List (List ℕ) → Option SettingsOf
said_after s [] = Some s
said_after s (word ∷ []) = option_and_then (λ t. said_after t []) (flag_said s word)
said_after s (word ∷ value ∷ words) =
    option_or
    (option_and_then (λ t. said_after t (value ∷ words)) (flag_said s word))
    (option_and_then (λ t. said_after t words) (value_said s word value))

-- what the words say
unfoldable pub settings_said : List (List ℕ) → Option SettingsOf
settings_said words = said_after unsaid words
