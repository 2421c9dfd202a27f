-- How a run ends: its status, and what was read and printed.
use Rattle.std.specs.Prelude.{◌≡◌, ℕ, Bool, List, [], Option, IsNone, IsSome, codes, true, false}
use Rattle.html5programs.specs.Encodings.{IsEncodingAsked, IsUnknownLabel, decoding_of}
use Rattle.html5programs.specs.Filtering.{AreSettingsAsked, Making, ReadsFiles, SaysNoSettings}
use Rattle.html5programs.specs.References.{IsTableAsked}
use Rattle.html5programs.specs.Words.{Asked, entities_asked, fatal_asked, files_asked, has_option, known_options, label_asked, words_asked}
use Rattle.html5programs.specs.declared.program.Program.{Program}
use Rattle.html5programs.specs.declared.ending.Ending.{Ending}
use Rattle.html5programs.specs.declared.ending.Ending.TheVariants.{Done, Found, Closed, Missed, Unprinted, NoMemory, WrongWord, WrongValue, NoTable, NoSettings}
use Rattle.html5encodings.specs.declared.encoding.Encoding.{Encoding}
use Rattle.html5programs.specs.declared.encoded.PageDecoding.{PageDecoding}
use Rattle.markup5ever.specs.NamedReferences.{NamedReference}

-- the status that the process ends with
abbrev pub status_of : Ending → ℕ
status_of Done = 0
status_of Closed = 0
status_of Found = 1
status_of Missed = 1
status_of Unprinted = 1
status_of NoMemory = 1
status_of WrongWord = 2
status_of WrongValue = 2
status_of NoTable = 2
status_of NoSettings = 2

-- what words ask of a program
abbrev pub asked_of : Program → List (List ℕ) → Asked
asked_of program words = words_asked (known_options program.choices.now) words

-- the words ask how the program is used
abbrev pub AsksHelp : Asked → Type 0
AsksHelp asked = has_option (codes "--help") asked ≡ true

-- they don't, and ask for its version
pub record AsksVersion (asked : Asked) : Type 0 where
  pub no_help : has_option (codes "--help") asked ≡ false
  pub version : has_option (codes "--version") asked ≡ true

-- they ask for neither, and for its own settings as a text
pub record AsksSettings (asked : Asked) : Type 0 where
  pub no_help : has_option (codes "--help") asked ≡ false
  pub no_version : has_option (codes "--version") asked ≡ false
  pub settings : has_option (codes "--print-policy") asked ≡ true

-- they ask for none of these texts
pub record AsksNoText (asked : Asked) : Type 0 where
  pub no_help : has_option (codes "--help") asked ≡ false
  pub no_version : has_option (codes "--version") asked ≡ false
  pub no_settings : has_option (codes "--print-policy") asked ≡ false

-- they ask for neither help nor version, and one of them is wrong
pub record HasWrongWord (asked : Asked) : Type 0 where
  pub no_help : has_option (codes "--help") asked ≡ false
  pub no_version : has_option (codes "--version") asked ≡ false
  pub wrong : IsSome asked.wrong

-- they ask for no text and none is wrong, but the label of the encoding names none
pub record NamesNoEncoding (asked : Asked) : Type 0 where
  pub no_text : AsksNoText asked
  pub no_wrong : IsNone asked.wrong
  pub unknown : IsUnknownLabel (label_asked asked)

-- they ask for no text and none is wrong, but they say no settings
pub record AsksNoSettings {T : Type 0} (file : Asked → Option (List ℕ)) (said : Asked → Option (List ℕ) → Option T) (asked : Asked) : Type 0 where
  pub no_text : AsksNoText asked
  pub no_wrong : IsNone asked.wrong
  pub none : SaysNoSettings file said asked

module _ {T M S : Type 0} (means : Making T M S) where
  -- these files were read by a table, decoded so and by settings, and what was written is what the filter printed of them. `found` says
  -- whether it found something that the status tells.
  pub record PrintsFiles (references : List NamedReference) (decoding : PageDecoding) (settings : T) (files : List (List ℕ)) (unread left : Option (List ℕ)) (written : List ℕ) (found : Bool) : Type 0 where
    pub after : S
    pub read : ReadsFiles means references decoding files unread left (means.started settings []) after
    pub printed : written ≡ means.printed after
    pub found_is : means.found after ≡ found

  -- those that the words ask for were, by the table, the encoding and the settings that they ask for, and decoded as they ask
  pub record PrintsAsked (file : Asked → Option (List ℕ)) (said_by : Asked → Option (List ℕ) → Option T) (asked : Asked)
      (unread left : Option (List ℕ)) (written : List ℕ) (found : Bool) : Type 0 where
    pub references : List NamedReference
    pub encoding : Option Encoding
    pub settings : T
    pub label : IsEncodingAsked (label_asked asked) encoding
    pub table : IsTableAsked (entities_asked asked) references
    pub said : AreSettingsAsked file said_by asked settings
    pub prints : PrintsFiles references (decoding_of (fatal_asked asked) encoding) settings (files_asked asked) unread left written found
