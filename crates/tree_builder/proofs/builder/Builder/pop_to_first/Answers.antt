use Rattle.std.proofs.Common.{ap, arith, sym, ◌∙◌}
use Rattle.tree_construction.specs.Page.{Page}
use Rattle.tree_builder.proofs.ToFirst.{none-popped}
use Rattle.tree_builder.proofs.builder.Builder.pop_to_first.Goals as goal

pub returns : goal.returns
returns g c =
    let b = c.loop-self.self in
    sym (ap (λ (page : Page). record b { parser = record b.parser { page = page } })
    (none-popped b.parser.page.opened b.parser.page (omega arith)))
    ∙ c.loop-self.invariant
