-- What words say is changed.
use Rattle.std.specs.Prelude.{ℕ, Bool, false, true, List, [], ◌∷◌, ◌++◌, ◌&&◌, ◌==◌, Option, None, Some, codes, option_map, if◌then◌else◌}
use Rattle.std.specs.Option.{option_and_then}
use Rattle.std.specs.Str.{bytes_eq}
use Rattle.html5extract.specs.Bases.{bases_by_word}
use Rattle.html5extract.specs.declared.bases.Bases.{Bases}
use Rattle.html5programs.specs.Words.{Asked, AskedOption, value_of}
use Rattle.html5serialize.specs.Tags.{is_attribute_name}
use Rattle.html5table.specs.Listed.{is_equals_sign, parts_round}
use Rattle.html5write.specs.Pieces.{is_tag_name}
use Rattle.html5edit.specs.Changes.{AttributeRule, Changes}
use Rattle.html5edit.specs.declared.settings.EditSettings.{EditSettings}

-- the signs between the parts of a rule
abbrev pub is_dot : ℕ → Bool
is_dot byte = byte == 46

-- ---- rules

-- whether tags are read with these names of an element and of an attribute
abbrev pub are_names : List ℕ × List ℕ → Bool
are_names names = is_tag_name names.0 && is_attribute_name names.1

-- `ELEMENT.ATTRIBUTE`, of such names
abbrev pub rule_of_names : Option (List ℕ) → List ℕ × List ℕ → Option AttributeRule
rule_of_names value names = if are_names names then (Some (record { element = names.0; attribute = names.1; value = value })) else None

abbrev pub rule_of_place : Option (List ℕ) → List ℕ → Option AttributeRule
rule_of_place value place = option_and_then (rule_of_names value) (parts_round is_dot place)

-- `ELEMENT.ATTRIBUTE=VALUE`
abbrev pub set_said : List ℕ → Option AttributeRule
set_said word = option_and_then (λ (parts : List ℕ × List ℕ). rule_of_place (Some parts.1) parts.0) (parts_round is_equals_sign word)

abbrev pub remove_said : List ℕ → Option AttributeRule
remove_said word = rule_of_place None word

-- ---- options

abbrev pub no_changes : Changes
no_changes = record { rules = []; dropped = []; noopener = false }

abbrev pub with_rule : Changes → AttributeRule → Changes
with_rule changes rule = record changes { rules = changes.rules ++ rule ∷ [] }

abbrev pub with_dropped : Changes → List ℕ → Changes
with_dropped changes name = record changes { dropped = changes.dropped ++ name ∷ [] }

abbrev pub drop_said : Changes → List ℕ → Option Changes
drop_said changes name = if is_tag_name name then Some (with_dropped changes name) else None

-- after an option with the word that belongs to it
abbrev pub said_after : AskedOption → Changes → Option Changes
said_after given changes =
    if bytes_eq given.name (codes "--set") then option_map (with_rule changes) (set_said given.value)
    else if bytes_eq given.name (codes "--remove") then option_map (with_rule changes) (remove_said given.value)
    else if bytes_eq given.name (codes "--drop") then drop_said changes given.value
    else if bytes_eq given.name (codes "--noopener") then Some (record changes { noopener = true })
    else Some changes

-- by all options, of which the last stands first
unfoldable pub changes_said : List AskedOption → Option Changes
changes_said [] = Some no_changes
changes_said (given ∷ before) = option_and_then (said_after given) (changes_said before)

abbrev pub settings_of : Option Bases → Option Changes → Option EditSettings
settings_of bases changes = option_and_then (λ b. option_map (λ c. record { changes = c; bases = b }) changes) bases

-- by the last `--absolute`, too
abbrev pub edit_settings_said : Asked → Option (List ℕ) → Option EditSettings
edit_settings_said asked text = settings_of (bases_by_word (value_of (codes "--absolute") asked.given)) (changes_said asked.given)
