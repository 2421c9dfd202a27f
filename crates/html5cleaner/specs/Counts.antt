-- How many elements of each name are open, as code counts them.
use Rattle.std.specs.Prelude.{ℕ, ◌+◌, Bool, List, [], ◌∷◌, Option, None, Some, if◌then◌else◌}
use Rattle.std.specs.List.{find}
use Rattle.std.specs.Str.{bytes_eq}
use Rattle.html5cleaner.specs.Open.{name_of}
use Rattle.html5cleaner.specs.declared.counts.Entry.{Entry}

-- whether an entry is that of this name
abbrev pub is_entry_of : {Z : Type 0} → List ℕ → Entry Z → Bool
is_entry_of name entry = bytes_eq (name_of entry.name) name

abbrev pub count_where : {Z : Type 0} → Option (Entry Z) → ℕ
count_where None = 0
count_where (Some entry) = entry.count

-- how many of this name, by its first entry
unfoldable pub count_of : {Z : Type 0} → List (Entry Z) → List ℕ → ℕ
count_of counts name = count_where (find (is_entry_of name) counts)

abbrev pub one_where : List ℕ → List ℕ → ℕ
one_where name other = if bytes_eq name other then 1 else 0

-- how many of this name are among those that are open
unfoldable pub occurrences : List (List ℕ) → List ℕ → ℕ
occurrences [] name = 0
occurrences (inner ∷ opened) name = one_where inner name + occurrences opened name
