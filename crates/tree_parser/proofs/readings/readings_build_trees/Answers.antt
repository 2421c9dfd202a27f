use Rattle.std.proofs.Common.{refl}
use Rattle.tree_construction.specs.Text.{text_start}
use Rattle.tree_parser.proofs.Stepping.{so-far-built, text-built}
use Rattle.tree_parser.proofs.readings.readings_build_trees.Goals as goal

pub returns-clause-whole : goal.returns-clause-whole
returns-clause-whole g c = λ options rules s text s_is. text-built options rules (text_start options) s text refl s_is

pub returns-clause-so_far : goal.returns-clause-so_far
returns-clause-so_far g c = λ options rules s text s_is. so-far-built options rules s text s_is
