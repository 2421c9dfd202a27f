-- The list of the standard's names has the form of a list.
use Rattle.std.specs.Prelude.{◌≡◌, true, refl}
use Rattle.std.specs.Option.{is_some}
use Rattle.html5entities.specs.Standard.{standard_list}
use Rattle.html5table.specs.Listed.{listed, entries_said, entry_said, characters_said, character_said, parts_round}

pub standard-listed : is_some (listed standard_list) ≡ true
unfolding listed entries_said entry_said characters_said character_said parts_round
standard-listed = refl
