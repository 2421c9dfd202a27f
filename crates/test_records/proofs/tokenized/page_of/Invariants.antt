use Rattle.std.proofs.Common.{length}
use Rattle.test_records.proofs.tokenized.page_of.Given as goal

abbrev pub decreases-loop-record : goal.decreases-loop-record
decreases-loop-record l = length l.rest
