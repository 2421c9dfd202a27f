use Rattle.std.proofs.Common.{◌≡◌, ◌+◌, ◌/◌, ◌^◌, ℕ, eqb, w8, take, ap, ◌∙◌, arith}
use Rattle.std.specs.Prelude.{◌==◌, count_by, count_ones}
use Rattle.std.proofs.lemmas.Simd.{bitmask_splat, length-chunk}
use lib.Lanes.{chunk}
use Rattle.html5reading.specs.Characters.{line_feed}
use Rattle.html5feed.proofs.LineFeedBlocks.{ones_past, block-counts, block-few}
use Rattle.html5feed.proofs.input.line_feeds_in_block.Given.{Over}
use Rattle.html5feed.proofs.input.line_feeds_in_block.Goals as goal

counted : (g : Over) (c : goal.After-from g) → c.from.result ≡ ones_past (chunk c.args.from g.row.LANES c.args.bytes.now) c.args.counted
counted g c =
    let block = chunk c.args.from g.row.LANES c.args.bytes.now in
    c.from.ensures
    ∙ ap (λ m. count_ones (m / 2 ^ c.args.counted)) (bitmask_splat w8 eqb block g.row.LANES line_feed (length-chunk c.args.from g.row.LANES c.args.bytes.now c.requires.within) (omega (arith, c.requires.lanes)))

pub returns-clause-counts : goal.returns-clause-counts
returns-clause-counts g c =
    ap (λ n. count_by (λ (b : ℕ). b == line_feed) (take (c.args.from + c.args.counted) c.args.bytes.now) + n) (counted g c)
    ∙ block-counts c.args.from g.row.LANES c.args.counted c.args.bytes.now c.requires.counted

pub returns-clause-few : goal.returns-clause-few
returns-clause-few g c =
    let block = chunk c.args.from g.row.LANES c.args.bytes.now in
    omega (arith, counted g c, block-few block c.args.counted, length-chunk c.args.from g.row.LANES c.args.bytes.now c.requires.within)
