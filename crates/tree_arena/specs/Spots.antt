-- Spots, in the words of the definition.
use Rattle.std.specs.Prelude.{option_map}
use Rattle.tree_construction.specs.Document.{Spot as DocumentSpot}
use Rattle.tree_arena.specs.Children.{number}
use Rattle.tree_arena.specs.declared.places.Spot.{Spot}

abbrev pub spot_in : Spot → DocumentSpot
spot_in spot = record { parent = number spot.parent; before = option_map number spot.before }
