-- The table of named references that a program goes by.
use Rattle.std.specs.Prelude.{◌≡◌, ◌==◌, ℕ, Bool, List, [], ◌∷◌, ◌++◌, Option, None, Some, Result, Ok, Err, option_map}
use Rattle.std.specs.List.{slice_split}
use Rattle.std.specs.Option.{option_and_then, unwrap_or}
use Rattle.std.specs.Str.{trim_end}
use Rattle.html5entities.specs.Standard.{standard_list}
use Rattle.html5table.specs.Listed.{entries_in, listed}
use Rattle.html5programs.specs.declared.references.ReferencesError.{ReferencesError}
use Rattle.html5programs.specs.declared.references.ReferencesError.TheVariants.{Unreadable, NoList, Table}
use Rattle.markup5ever.specs.NamedReferences.{NamedReference, table_of}
use Rattle.markup5ever.specs.declared.data.TableError.{TableError}

abbrev pub is_line_feed : ℕ → Bool
is_line_feed byte = byte == 10

-- the entries of lines, if each line is a list. White space at the end of a line says nothing.
unfoldable pub lines_said : List (List ℕ) → Option (List NamedReference)
lines_said [] = Some []
lines_said (line ∷ lines) =
    option_and_then (λ entries. option_map (λ later. entries ++ later) (lines_said lines)) (listed (trim_end line))

-- what a file's text says: the entries of its lines
abbrev pub text_said : List ℕ → Option (List NamedReference)
text_said text = lines_said (slice_split is_line_feed text)

-- these entries, if the text has the form
abbrev pub entries_of_text : List ℕ → List NamedReference
entries_of_text text = unwrap_or (text_said text) []

-- the table of a file's text
abbrev pub table_said : List ℕ → List NamedReference
table_said text = table_of (entries_of_text text)

-- the table is the standard's, or, where a file is named, that of a text. Which text the file holds no contract says.
abbrev pub IsTableAsked : Option (List ℕ) → List NamedReference → Type 0
IsTableAsked None references = references ≡ table_of (entries_in standard_list)
IsTableAsked (Some path) references = (text : List ℕ) × (references ≡ table_said text)

-- the same answer in the program's words
abbrev pub table_or_error : {X : Type 0} → Result X TableError → Result X ReferencesError
table_or_error (Ok references) = Ok references
table_or_error (Err error) = Err (Table error)

-- an error that is not of a file
abbrev pub IsOfTable : ReferencesError → Type 0
IsOfTable (Unreadable fault) = ⊥
IsOfTable NoList = ⊥
IsOfTable (Table error) = Unit {0}

-- an error of a file's text
abbrev pub IsOfText : ReferencesError → Type 0
IsOfText (Unreadable fault) = ⊥
IsOfText NoList = Unit {0}
IsOfText (Table error) = Unit {0}
