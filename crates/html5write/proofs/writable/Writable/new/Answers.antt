use Rattle.html5write.proofs.Looked.{plain-writable, plain-not_refused}
use Rattle.html5write.proofs.writable.Writable.new.Goals as goal

pub invariant_of-result : goal.invariant_of-result
invariant_of-result c = record {
  writable = plain-writable c.args.piece (c.is_plain_piece-is_plain.ensures c.if-is_plain.true);
  plain = c.is_plain_piece-is_plain.ensures;
}

pub returns-then-is_plain-clause-refused : goal.returns-then-is_plain-clause-refused
returns-then-is_plain-clause-refused c =
    λ error refused. absurd (plain-not_refused c.args.piece error (c.is_plain_piece-is_plain.ensures c.if-is_plain.true) refused)
