-- The commands of the program, the options that each knows, and what each prints.
use Rattle.std.specs.Prelude.{◌≡◌, ℕ, Bool, true, false, List, [], ◌∷◌, ◌++◌, ◌&&◌, Option, None, Some, Ok, codes, option_map, if◌then◌else◌, IfSome, IsNone}
use Rattle.std.specs.Io.{StartsWith}
use Rattle.std.specs.Str.{bytes_eq}
use Rattle.html5check.specs.Asked.{check_settings_said}
use Rattle.html5check.specs.Lines.{lines_of}
use Rattle.html5check.specs.Located.{Located}
use Rattle.html5check.specs.Making.{Checks, check_made}
use Rattle.html5check.specs.declared.settings.CheckSettings.{CheckSettings}
use Rattle.html5cleaner.specs.Cleaning.{Standing, page_messages, policy_by, printed_of}
use Rattle.html5ever_interface.specs.Sink.{Message}
use Rattle.html5cleaner.specs.declared.settings.PolicySettings.{PolicySettings}
use Rattle.html5commands.specs.declared.command.Command.{Command}
use Rattle.html5commands.specs.declared.command.Command.TheVariants.{Check, Clean, Links, Rewrite, Text, Tokens}
use Rattle.html5commands.specs.declared.format.Format.{Format}
use Rattle.html5commands.specs.declared.format.Format.TheVariants.{Json, Lines, Sarif}
use Rattle.html5edit.specs.Asked.{edit_settings_said}
use Rattle.html5edit.specs.Pages.{edit_made}
use Rattle.html5extract.specs.Asked.{link_settings_said, token_settings_said}
use Rattle.html5extract.specs.Bases.{bases_asked}
use Rattle.html5extract.specs.Makings.{links_made, text_made, tokens_made}
use Rattle.html5json.specs.Findings.{finding_lines, log_ended, results_of}
use Rattle.html5json.specs.Makings.{json_links_made, json_tokens_made}
use Rattle.html5policy.specs.Standard.{standard_policy}
use Rattle.html5policy.specs.Text.{policy_said}
use Rattle.html5programs.specs.Ending.{AsksHelp, AsksNoText, AsksSettings, AsksVersion, PrintsAsked}
use Rattle.html5programs.specs.Filtering.{Making}
use Rattle.html5programs.specs.Version.{version_line}
use Rattle.html5programs.specs.Words.{Asked, KnownOption, settings_asked, value_of, words_asked}

-- the name of the program
abbrev pub program_name : List ℕ
program_name = codes "firnuubal"

-- the command of this name
unfoldable pub command_of : List ℕ → Option Command
command_of word =
    if bytes_eq word (codes "tokens") then Some Tokens
    else if bytes_eq word (codes "links") then Some Links
    else if bytes_eq word (codes "text") then Some Text
    else if bytes_eq word (codes "clean") then Some Clean
    else if bytes_eq word (codes "check") then Some Check
    else if bytes_eq word (codes "rewrite") then Some Rewrite
    else None

-- ---- the options

abbrev pub flag : List ℕ → KnownOption
flag name = record { name = name; takes_word = false }

-- an option with a word after it
abbrev pub before_word : List ℕ → KnownOption
before_word name = record { name = name; takes_word = true }

-- those of each command
abbrev pub reading_options : List KnownOption
reading_options =
    flag (codes "--help") ∷ flag (codes "--version") ∷ before_word (codes "--encoding") ∷ flag (codes "--fatal") ∷ before_word (codes "--entities")
    ∷ flag (codes "--progress") ∷ []

-- and of those that print in a format, with names in front
abbrev pub format_options : List KnownOption
format_options =
    reading_options
    ++ before_word (codes "--format")
    ∷ flag (codes "-H") ∷ flag (codes "--with-filename") ∷ flag (codes "-h") ∷ flag (codes "--no-filename") ∷ []

-- and of links
abbrev pub link_options : List KnownOption
link_options = format_options ++ before_word (codes "--base") ∷ []

-- and of those that say what is changed
abbrev pub edit_options : List KnownOption
edit_options = before_word (codes "--set") ∷ before_word (codes "--remove") ∷ before_word (codes "--drop") ∷ before_word (codes "--absolute") ∷ flag (codes "--noopener") ∷ []

unfoldable pub options_of : Command → List KnownOption
options_of Tokens = format_options
options_of Links = link_options
options_of Text = reading_options
options_of Clean = reading_options ++ before_word (codes "--policy") ∷ flag (codes "--print-policy") ∷ []
options_of Rewrite = reading_options ++ edit_options
options_of Check = reading_options ++ before_word (codes "--format") ∷ before_word (codes "--template") ∷ []

-- ---- the words

-- a command, and the words after it
pub record Named : Type 0 where
  pub command : Command
  pub words : List (List ℕ)

abbrev pub named_by : List (List ℕ) → Option Command → Option Named
named_by words None = None
named_by words (Some command) = Some (record { command = command; words = words })

-- the command that words name
abbrev pub command_named : List (List ℕ) → Option Named
command_named [] = None
command_named (word ∷ words) = named_by words (command_of word)

-- a word that is not a command, and asks for no text
pub record IsUnknownWord (word : List ℕ) : Type 0 where
  pub no_command : command_of word ≡ None
  pub no_help : bytes_eq word (codes "--help") ≡ false
  pub no_version : bytes_eq word (codes "--version") ≡ false

-- words that name no command and ask for no text: there is none, or the first is unknown
abbrev pub NamesNothing : List (List ℕ) → Type 0
NamesNothing [] = Unit {0}
NamesNothing (word ∷ words) = IsUnknownWord word

-- what the words after it ask of a command
abbrev pub asked_of_command : Named → Asked
asked_of_command named = words_asked (options_of named.command) named.words

-- ---- the help

-- how the help of each command begins
unfoldable pub usage_of : Command → List ℕ
usage_of Tokens = codes "usage: firnuubal tokens "
usage_of Links = codes "usage: firnuubal links "
usage_of Text = codes "usage: firnuubal text "
usage_of Clean = codes "usage: firnuubal clean "
usage_of Check = codes "usage: firnuubal check "
usage_of Rewrite = codes "usage: firnuubal rewrite "

-- what the program prints of itself, if its first word asks for that
pub record SaysItself (word written : List ℕ) : Type 0 where
  pub help : word ≡ codes "--help" → StartsWith written (codes "usage: firnuubal COMMAND ")
  pub version : word ≡ codes "--version" → written ≡ version_line program_name

abbrev pub SaysFirst : List (List ℕ) → List ℕ → Type 0
SaysFirst [] written = Unit {0}
SaysFirst (word ∷ words) written = SaysItself word written

-- ---- the format

-- the format of this name, where a log of SARIF is one or not
unfoldable pub format_named : Bool → List ℕ → Option Format
format_named logs word =
    if bytes_eq word (codes "lines") then Some Lines
    else if bytes_eq word (codes "json") then Some Json
    else if logs && bytes_eq word (codes "sarif") then Some Sarif
    else None

-- lines, if no name is given
abbrev pub format_of : Bool → Option (List ℕ) → Option Format
format_of logs None = Some Lines
format_of logs (Some word) = format_named logs word

-- the format that words ask for, if there is such a one
abbrev pub format_asked : Bool → Asked → Option Format
format_asked logs asked = format_of logs (value_of (codes "--format") asked.given)

-- they ask for no text and none is wrong, but there is no format of the name that they give
pub record NamesNoFormat (logs : Bool) (asked : Asked) : Type 0 where
  pub no_text : AsksNoText asked
  pub no_wrong : IsNone asked.wrong
  pub unknown : format_asked logs asked ≡ None

-- the commands that print in a format
abbrev pub has_formats : Command → Bool
has_formats Tokens = true
has_formats Links = true
has_formats Text = false
has_formats Clean = false
has_formats Check = true
has_formats Rewrite = false

-- and of those such that do as a log of SARIF, too
abbrev pub has_logs : Command → Bool
has_logs Check = true
has_logs other = false

-- ---- what is printed

-- pages that are cleaned by a policy, after what was printed before
abbrev pub clean_made : Making PolicySettings Message Standing
clean_made = record {
  started = λ settings printed. record { policy = settings.policy; printed = printed };
  named = λ file s. s;
  begun = λ s. s;
  page = page_messages;
  handed = printed_of;
  printed = λ s. s.printed;
  found = λ s. false;
}

-- what is found in pages, as lines, as JSON, and as a log of SARIF
abbrev pub check_made_lines : Making CheckSettings Located Checks
check_made_lines = check_made (λ found file located. lines_of file located) (λ found. [])

abbrev pub check_made_json : Making CheckSettings Located Checks
check_made_json = check_made (λ found file located. finding_lines file located) (λ found. [])

abbrev pub check_made_log : Making CheckSettings Located Checks
check_made_log = check_made results_of log_ended

-- they ask for no text and none is wrong, but the template language that they name is unknown
pub record NamesNoTemplate (asked : Asked) : Type 0 where
  pub no_text : AsksNoText asked
  pub no_wrong : IsNone asked.wrong
  pub unknown : check_settings_said asked None ≡ None

-- the policy of a text, or the standard policy if there is none
abbrev pub settings_by : Option (List ℕ) → Option PolicySettings
settings_by text = option_map (λ policy. record { policy = policy }) (policy_by text)

-- they ask for no text and none is wrong, but what they say is no change of pages, or no URL
pub record NamesNoChange (asked : Asked) : Type 0 where
  pub no_text : AsksNoText asked
  pub no_wrong : IsNone asked.wrong
  pub unknown : edit_settings_said asked None ≡ None

-- ---- the files of settings, and what words and such a file's text say

abbrev pub no_file : Asked → Option (List ℕ)
no_file asked = None

abbrev pub no_settings : Asked → Option (List ℕ) → Option (Unit {0})
no_settings asked text = Some tt

abbrev pub policy_settings : Asked → Option (List ℕ) → Option PolicySettings
policy_settings asked text = settings_by text

-- they ask for no text and none is wrong, but the URL that they give is not one
pub record NamesNoBase (asked : Asked) : Type 0 where
  pub no_text : AsksNoText asked
  pub no_wrong : IsNone asked.wrong
  pub no_url : bases_asked asked ≡ None

-- by the format that is asked for
abbrev pub InFormat : Option Format → Type 0 → Type 0 → Type 0 → Type 0
InFormat None lines json log = ⊥
InFormat (Some Lines) lines json log = lines
InFormat (Some Json) lines json log = json
InFormat (Some Sarif) lines json log = log

-- all files that the words ask for were read, and what was written is what the command prints of them. `found` says whether
-- it found something that the status tells.
abbrev pub PrintsBy : Command → Asked → Option (List ℕ) → Option (List ℕ) → List ℕ → Bool → Type 0
PrintsBy Tokens asked unread left written found = InFormat (format_asked false asked)
    (PrintsAsked tokens_made no_file token_settings_said asked unread left written found)
    (PrintsAsked json_tokens_made no_file token_settings_said asked unread left written found) ⊥
PrintsBy Links asked unread left written found = InFormat (format_asked false asked)
    (PrintsAsked links_made no_file link_settings_said asked unread left written found)
    (PrintsAsked json_links_made no_file link_settings_said asked unread left written found) ⊥
PrintsBy Text asked unread left written found = PrintsAsked text_made no_file no_settings asked unread left written found
PrintsBy Clean asked unread left written found = PrintsAsked clean_made settings_asked policy_settings asked unread left written found
PrintsBy Rewrite asked unread left written found = PrintsAsked edit_made no_file edit_settings_said asked unread left written found
PrintsBy Check asked unread left written found = InFormat (format_asked true asked)
    (PrintsAsked check_made_lines no_file check_settings_said asked unread left written found)
    (PrintsAsked check_made_json no_file check_settings_said asked unread left written found)
    (PrintsAsked check_made_log no_file check_settings_said asked unread left written found)

-- the program did all that these words ask for, and found nothing that the status tells. Its input had this in front of it,
-- and this was written.
pub record Prints (words : List (List ℕ)) (unread : Option (List ℕ)) (written : List ℕ) : Type 0 where
  pub pages : IfSome (command_named words) (λ named. AsksNoText (asked_of_command named)
      → (left : Option (List ℕ)) × PrintsBy named.command (asked_of_command named) unread left written false)
  pub help : IfSome (command_named words) (λ named. AsksHelp (asked_of_command named) → StartsWith written (usage_of named.command))
  pub version : IfSome (command_named words) (λ named. AsksVersion (asked_of_command named) → written ≡ version_line program_name)
  pub policy : IfSome (command_named words) (λ named. AsksSettings (asked_of_command named) → policy_said written ≡ Ok standard_policy)
  pub first : SaysFirst words written
