use Rattle.std.proofs.Common.{◌≡◌, ◌++◌, length}
use Rattle.std.specs.Vec.Iter.{into_iter_items, into_iter_len}
use Rattle.markup5ever.specs.NamedReferences.{references_of, first_fault_after, first_fault}
use Rattle.markup5ever.proofs.TableChecks.{IsTableOf}
use Rattle.markup5ever.proofs.data.NamedReferences.check.Given as goal

abbrev pub invariant-loop-entry : goal.invariant-loop-entry
invariant-loop-entry g l = record {
  all : l.yielded ++ into_iter_items l.entry-iterator ≡ into_iter_items l.initial.entry-iterator;
  left : into_iter_len l.entry-iterator ≡ length (into_iter_items l.entry-iterator);
  table : IsTableOf l.table (references_of l.yielded);
  faultless : first_fault_after (references_of l.yielded) (references_of (into_iter_items l.entry-iterator)) ≡ first_fault (references_of (into_iter_items l.initial.entry-iterator));
}
