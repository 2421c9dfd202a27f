use Rattle.std.proofs.Common.{◌≡◌, length}
use Rattle.std.specs.Str.{IsUtf8}
use Rattle.tree_construction.specs.Tables.{flushed_fostered}
use Rattle.tree_builder.specs.Built.{on_parser}
use Rattle.tree_builder.proofs.builder.Builder.foster_all.Given as goal

abbrev pub invariant-loop-run : goal.invariant-loop-run
invariant-loop-run g l =
    IsUtf8 l.rest × (on_parser (flushed_fostered l.rest) l.self ≡ on_parser (flushed_fostered l.text) l.initial.self)

abbrev pub decreases-loop-run : goal.decreases-loop-run
decreases-loop-run g l = length l.rest
