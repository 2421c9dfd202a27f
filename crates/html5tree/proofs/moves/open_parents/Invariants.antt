use Rattle.std.proofs.Common.{◌+◌, ◌<◌, ◌≤◌, vec_capacity, vec_len}
use Rattle.html5tree.proofs.Moved.{IsOpening}
use Rattle.html5tree.specs.Planned.{parents_said}
use Rattle.html5tree.specs.Searches.{names_open}
use Rattle.html5tree.proofs.moves.open_parents.Given as goal

abbrev pub invariant-loop-at : goal.invariant-loop-at
invariant-loop-at g l = record {
  opening : IsOpening (names_open l.initial.names.items) (parents_said l.parents) l.names.items l.at;
  len : vec_len l.names ≤ vec_len l.initial.names + l.at;
  room : vec_len l.initial.names + 3 < vec_capacity l.names;
}
