use Rattle.std.proofs.Common.{◌≡◌, length}
use Rattle.tree_construction.specs.Page.{popped_to_first}
use Rattle.tree_construction.specs.Parser.{on_page}
use Rattle.tree_builder.specs.Built.{on_parser}
use Rattle.tree_builder.proofs.builder.Builder.pop_to_first.Given as goal

abbrev pub invariant-loop-self : goal.invariant-loop-self
invariant-loop-self g l = on_parser (on_page popped_to_first) l.self ≡ on_parser (on_page popped_to_first) l.initial.self

abbrev pub decreases-loop-self : goal.decreases-loop-self
decreases-loop-self g l = length l.self.parser.page.opened
