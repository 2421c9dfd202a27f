use Rattle.std.proofs.Common.{arith}
use Rattle.html5encodings.proofs.AsciiRuns.{IsAscii-below, below-more}
use Rattle.html5encodings.proofs.front.ascii_len.Goals as goal

pub returns-then-count-lt-BLOCK-clause-ascii : goal.returns-then-count-lt-BLOCK-clause-ascii
returns-then-count-lt-BLOCK-clause-ascii c =
    IsAscii-below c.args.bytes.now _ (below-more c.args.bytes.now c.loop-at.at c.ascii_in_block-count.result c.loop-at.invariant.ascii c.ascii_in_block-count.ensures.ascii)

pub loop-at-preserved : goal.loop-at-preserved
loop-at-preserved c =
    let here = c.loop-at in
    let block = c.ascii_in_block-count in
    record {
      within = omega (arith, c.loop-at-test.true, here.invariant.within);
      ascii = below-more c.args.bytes.now here.at 16 here.invariant.ascii (λ k less. block.ensures.ascii k (omega (arith, less, c.if-count-lt-BLOCK.false)));
    }
