use Rattle.std.proofs.Common.{◌<◌, ap, arith, refl, sym, subst, ◌∙◌}
use Rattle.std.specs.Prelude.{option_map}
use Rattle.html5tree.proofs.Moved.{got-one, opening-more, opening-none}
use Rattle.html5tree.specs.ElementNames.{name_of}
use Rattle.html5tree.specs.Planned.{parents_said}
use Rattle.html5tree.specs.Searches.{names_open}
use Rattle.html5tree.proofs.moves.open_parents.Goals as goal

pub loop-at-init : goal.loop-at-init
loop-at-init g c = record {
  opening = opening-none (names_open c.args.names.now.items) (parents_said c.args.parents) c.args.names.now.items refl;
  len = omega arith;
  room = c.requires;
}

pub loop-at-preserved : goal.loop-at-preserved
loop-at-preserved g c =
    let before = c.loop-at.invariant in
    record {
      opening =
          opening-more (names_open c.args.names.now.items) (parents_said c.args.parents) c.loop-at.names.items c.push_within.new.names.items c.in-Some.name c.get.result
          c.loop-at.at before.opening c.push_within.ensures.items c.in-Some.is c.get.ensures;
      len = omega arith;
      room = omega arith;
    }

pub unreachable-requires : goal.unreachable-requires
unreachable-requires g c =
    got-one (parents_said c.args.parents) c.loop-at.at (sym (ap (option_map name_of) c.in-None.is) ∙ c.get.ensures)
    (subst (λ n. c.loop-at.at < n) c.len-at-end.ensures.value c.loop-at-test.true)
