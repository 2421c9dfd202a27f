use Rattle.std.proofs.Common.{◌≡◌, ◌+◌, ◌-◌, List, ℕ, length, take, ap, ◌∙◌, arith}
use Rattle.std.specs.Prelude.{◌==◌, count_by}
use Rattle.std.proofs.lemmas.List.{take_all}
use Rattle.html5reading.specs.Characters.{line_feed}
use Rattle.html5feed.proofs.RunInput.{line_feeds-bytes}
use Rattle.html5feed.proofs.input.line_feeds.Goals as goal

pub returns-then-bytes-lt-BLOCK : goal.returns-then-bytes-lt-BLOCK
returns-then-bytes-lt-BLOCK c =
    c.line_feeds_in_few.ensures
    ∙ ap (count_by (λ b. b == line_feed)) c.as_bytes-bytes.ensures.value
    ∙ line_feeds-bytes c.args.text.now c.utf8.text

pub returns : goal.returns
returns c =
    let bytes = c.as_bytes-bytes.result.now in
    let at = c.loop-at.at in
    let last = length bytes - 16 in
    let more = c.line_feeds_in_block.result in
    let count : List ℕ → ℕ = count_by (λ b. b == line_feed) in
    let counted : at ≡ last + (at - last) = omega (arith, c.loop-at-test.false, c.loop-at.invariant.2) in
    ap (λ n. n + more) (c.loop-at.invariant.0 ∙ ap (λ k. count (take k bytes)) counted)
    ∙ c.line_feeds_in_block.ensures.counts
    ∙ ap count (take_all (last + 16) bytes (omega arith) ∙ c.as_bytes-bytes.ensures.value)
    ∙ line_feeds-bytes c.args.text.now c.utf8.text
