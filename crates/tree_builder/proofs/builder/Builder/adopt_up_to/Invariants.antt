use Rattle.std.proofs.Common.{◌≡◌, ◌+◌, length}
use Rattle.tree_construction.specs.Adoption.{inner_loop, inner_start, opened_inside, opened_outside}
use Rattle.tree_builder.specs.Adopting.{inner_of, with_inner, with_opened}
use Rattle.tree_builder.proofs.builder.Builder.adopt_up_to.Given as goal

abbrev pub invariant-loop-turn : goal.invariant-loop-turn
invariant-loop-turn g l = record {
  inner : inner_loop (g.S.Handle.NodeHandle.node l.block) (l.turn + 1) (opened_inside (g.S.Handle.NodeHandle.node l.formatting) l.self.parser.page.opened)
      (inner_of g.S.Handle.NodeHandle.node l.self l.at)
      ≡ inner_loop (g.S.Handle.NodeHandle.node l.block) 1 (opened_inside (g.S.Handle.NodeHandle.node l.formatting) l.initial.self.parser.page.opened)
      (inner_start l.initial.self.parser (g.S.Handle.NodeHandle.node l.block));
  outside : opened_outside (g.S.Handle.NodeHandle.node l.formatting) l.self.parser.page.opened
      ≡ opened_outside (g.S.Handle.NodeHandle.node l.formatting) l.initial.self.parser.page.opened;
  rest : l.self ≡ with_opened l.self.parser.page.opened (with_inner l.self l.initial.self);
  counted : l.turn + length l.self.parser.page.opened ≡ length l.initial.self.parser.page.opened;
}
