use Rattle.std.proofs.Common.{arith, ◌∙◌}
use Rattle.html5tree.proofs.Moved.{closing-more}
use Rattle.html5tree.specs.Searches.{names_open}
use Rattle.html5tree.proofs.moves.close.Goals as goal

pub loop-at-preserved : goal.loop-at-preserved
loop-at-preserved g c =
    let before = c.loop-at.invariant in
    record {
      closing =
          closing-more (names_open c.args.names.now.items) c.loop-at.names.items c.pop.new.self.items c.loop-at.closed.items c.push_within.new.names.items
          c.in-Some.name c.loop-at._at before.closing c.in-Some.ensures.items c.push_within.ensures.items;
      noted = omega arith;
      room = omega arith;
      capacity = c.pop.ensures.capacity ∙ before.capacity;
      len = omega arith;
    }
