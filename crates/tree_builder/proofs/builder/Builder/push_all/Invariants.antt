use Rattle.std.proofs.Common.{◌≡◌, length}
use Rattle.tree_construction.specs.Parser.{on_page}
use Rattle.tree_lists.specs.Opened.{opened_of}
use Rattle.tree_builder.specs.Adopting.{pushed_back}
use Rattle.tree_builder.specs.Built.{on_parser}
use Rattle.tree_builder.proofs.builder.Builder.push_all.Given as goal

abbrev pub invariant-loop-element : goal.invariant-loop-element
invariant-loop-element g l =
    on_parser (on_page (λ page. record page { opened = pushed_back (opened_of g.S.Handle.NodeHandle.node l.left) page.opened })) l.self
    ≡ on_parser (on_page (λ page. record page { opened = pushed_back (opened_of g.S.Handle.NodeHandle.node l.initial.left) page.opened })) l.initial.self

abbrev pub decreases-loop-element : goal.decreases-loop-element
decreases-loop-element g l = length l.left
