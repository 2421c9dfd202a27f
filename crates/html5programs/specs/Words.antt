-- What the words of the command line ask for. A word is its bytes.
use Rattle.std.specs.Prelude.{Bool, true, false, not, ◌||◌, ◌==◌, ℕ, List, [], ◌∷◌, ◌++◌, Option, None, Some, is_some, map, codes, length, nat_lt, unwrap_or, if◌then◌else◌}
use Rattle.std.specs.Option.{is_none, option_map, option_or}
use Rattle.std.specs.Str.{bytes_eq}
use Rattle.html5programs.specs.declared.words.Choice.{Choice}
use Rattle.html5programs.specs.declared.words.GivenOption.{GivenOption}
use Rattle.html5programs.specs.declared.words.Words.{Words}

-- an option that a program knows, and whether the word after it belongs to it
pub record KnownOption : Type 0 where
  pub name : List ℕ
  pub takes_word : Bool

abbrev pub known_option : Choice → KnownOption
known_option choice = record { name = choice.name.now; takes_word = choice.takes_word }

abbrev pub known_options : List Choice → List KnownOption
known_options choices = map known_option choices

-- an option that was given, and the word that belongs to it, which is empty for a flag
pub record AskedOption : Type 0 where
  pub name : List ℕ
  pub value : List ℕ

abbrev pub asked_option : List ℕ → List ℕ → AskedOption
asked_option name value = record { name = name; value = value }

pub record Asked : Type 0 where
  -- the options that were given, the last first
  pub given : List AskedOption
  -- the files to read, in order
  pub files : List (List ℕ)
  -- the option that the next word belongs to
  pub waiting : Option (List ℕ)
  -- whether all later words are files
  pub only_files : Bool
  -- the first word that is not an option of the program, or that another must follow
  pub wrong : Option (List ℕ)

abbrev pub given_of : GivenOption → AskedOption
given_of given = asked_option given.name.now given.value.now

-- what the program's own record of it says
abbrev pub asked_by : {Z : Type 0} → Words Z → Asked
asked_by asked = record {
  given = map given_of asked.given.items;
  files = map (λ file. file.now) asked.files.items;
  waiting = option_map (λ word. word.now) asked.waiting;
  only_files = asked.only_files;
  wrong = option_map (λ word. word.now) asked.wrong;
}

-- what no word asks for
abbrev pub nothing_asked : Asked
nothing_asked = record { given = []; files = []; waiting = None; only_files = false; wrong = None }

-- ---- words, one after the other

-- the first wrong word is reported
abbrev pub with_wrong : Asked → List ℕ → Asked
with_wrong s word = if is_none s.wrong then record s { wrong = Some word } else s

-- an option was given with the word that belongs to it
abbrev pub with_given : Asked → List ℕ → List ℕ → Asked
with_given s name value = record s { given = asked_option name value ∷ s.given; waiting = None }

-- whether a word is a file: `-`, or a word that begins otherwise
abbrev pub is_file : List ℕ → Bool
is_file [] = true
is_file (byte ∷ []) = true
is_file (byte ∷ other ∷ word) = not (byte == 45)

-- whether a word belongs to an option, or none where the program knows no such option
unfoldable pub wants_word : List KnownOption → List ℕ → Option Bool
wants_word [] option = None
wants_word (known ∷ options) option = if bytes_eq known.name option then Some known.takes_word else wants_word options option

-- after a word that is not a file: an option that waits for a word, a flag, or no option
abbrev pub with_option : Asked → List ℕ → Option Bool → Asked
with_option s word (Some true) = record s { waiting = Some word }
with_option s word (Some false) = with_given s word []
with_option s word None = with_wrong s word

-- after a word that belongs to no option; after `--` all are files
unfoldable pub with_word : List KnownOption → Asked → List ℕ → Asked
with_word options s word =
    if s.only_files || is_file word then record s { files = s.files ++ word ∷ [] }
    else if bytes_eq word (codes "--") then record s { only_files = true }
    else with_option s word (wants_word options word)

-- after a word, where an option waits for it or none does
abbrev pub with_next : List KnownOption → Asked → Option (List ℕ) → List ℕ → Asked
with_next options s (Some option) word = with_given s option word
with_next options s None word = with_word options s word

abbrev pub asked_with : List KnownOption → Asked → List ℕ → Asked
asked_with options s word = with_next options s s.waiting word

-- after words, one after the other
unfoldable pub asked_after : List KnownOption → Asked → List (List ℕ) → Asked
asked_after options s [] = s
asked_after options s (word ∷ words) = asked_after options (asked_with options s word) words

-- an option that still waits lacks its word
abbrev pub settled_where : Asked → Option (List ℕ) → Asked
settled_where s (Some option) = with_wrong s option
settled_where s None = s

unfoldable pub settled : Asked → Asked
settled s = settled_where s s.waiting

-- what the words ask for of a program with these options
abbrev pub words_asked : List KnownOption → List (List ℕ) → Asked
words_asked options words = settled (asked_after options nothing_asked words)

-- ---- what the words ask for

-- the word that belongs to an option, where it was given
unfoldable pub value_of : List ℕ → List AskedOption → Option (List ℕ)
value_of option [] = None
value_of option (g ∷ given) = if bytes_eq g.name option then Some g.value else value_of option given

abbrev pub has_option : List ℕ → Asked → Bool
has_option option asked = is_some (value_of option asked.given)

-- the label of an encoding, where it is given
abbrev pub label_asked : Asked → Option (List ℕ)
label_asked asked = value_of (codes "--encoding") asked.given

-- whether bytes that are not UTF-8 are to be refused
abbrev pub fatal_asked : Asked → Bool
fatal_asked asked = has_option (codes "--fatal") asked

-- the file of the table of named references, and that of the settings, where they are given
abbrev pub entities_asked : Asked → Option (List ℕ)
entities_asked asked = value_of (codes "--entities") asked.given

abbrev pub settings_asked : Asked → Option (List ℕ)
settings_asked asked = value_of (codes "--policy") asked.given

-- the files that a program reads: those that the words name, or else standard input
abbrev pub files_or_input : List (List ℕ) → List (List ℕ)
files_or_input [] = codes "-" ∷ []
files_or_input (file ∷ files) = file ∷ files

abbrev pub files_asked : Asked → List (List ℕ)
files_asked asked = files_or_input asked.files

-- ---- names in front

-- whether an option asks for the names of files in front, or for none, if it is about them
abbrev pub naming_by : List ℕ → Option Bool
naming_by option =
    if bytes_eq option (codes "-H") || bytes_eq option (codes "--with-filename") then Some true
    else if bytes_eq option (codes "-h") || bytes_eq option (codes "--no-filename") then Some false
    else None

-- what the last option about them asks for
unfoldable pub naming_of : List AskedOption → Option Bool
naming_of [] = None
naming_of (g ∷ given) = option_or (naming_by g.name) (naming_of given)

-- whether names stand in front: as the words ask for it, or else where they name more than one file
abbrev pub shows_names : Asked → Bool
shows_names asked = unwrap_or (naming_of asked.given) (nat_lt 1 (length asked.files))
