use Rattle.html5encodings.proofs.AsciiRuns.{ascii-before, ascii-stops, ascii-within}
use Rattle.html5encodings.proofs.front.ascii_in_block.Goals as goal

pub returns-clause-within : goal.returns-clause-within
returns-clause-within c = ascii-within c.args.bytes.now c.args.at c.first_set.result c.requires c.first_set.ensures

pub returns-clause-ascii : goal.returns-clause-ascii
returns-clause-ascii c = ascii-before c.args.bytes.now c.args.at c.first_set.result c.requires c.first_set.ensures

pub returns-clause-longest : goal.returns-clause-longest
returns-clause-longest c = ascii-stops c.args.bytes.now c.args.at c.first_set.result c.requires c.first_set.ensures
