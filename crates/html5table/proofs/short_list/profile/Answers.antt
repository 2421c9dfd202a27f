use Rattle.std.proofs.Common.{refl}
use Rattle.markup5ever.specs.NamedReferences.{fault_after, first_fault_after, has_zero, is_plain_name, characters_of_name}
use Rattle.html5table.specs.Listed.{listed, entries_said, entry_said, characters_said, character_said, parts_round}
use Rattle.html5table.specs.Profile.{profile_entries}
use Rattle.html5table.proofs.short_list.profile.Goals as goal

pub returns-clause-said : goal.returns-clause-said
unfolding listed entries_said entry_said characters_said character_said parts_round profile_entries
returns-clause-said c = refl

pub returns-clause-faultless : goal.returns-clause-faultless
unfolding profile_entries first_fault_after fault_after is_plain_name has_zero characters_of_name
returns-clause-faultless c = refl
