use Rattle.std.proofs.Common.{◌≡◌, ◌≤◌, vec_capacity, vec_len}
use Rattle.html5tree.proofs.Moved.{IsClosing}
use Rattle.html5tree.specs.Searches.{names_open}
use Rattle.html5tree.proofs.moves.close.Given as goal

abbrev pub invariant-loop-at : goal.invariant-loop-at
invariant-loop-at g l = record {
  closing : IsClosing (names_open l.initial.names.items) l.names.items l.closed.items l._at;
  noted : vec_len l.closed ≤ l._at;
  room : l.count ≤ vec_capacity l.closed;
  capacity : vec_capacity l.names ≡ vec_capacity l.initial.names;
  len : vec_len l.names ≤ vec_len l.initial.names;
}
