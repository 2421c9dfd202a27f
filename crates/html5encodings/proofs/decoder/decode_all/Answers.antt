use Rattle.std.proofs.Common.{◌≡◌, ◌++◌, string_bytes, ap, ◌∙◌}
use Rattle.html5encodings.specs.Decoding.{start}
use Rattle.html5encodings.proofs.Runs.{all-more, all-ended}
use Rattle.html5encodings.proofs.decoder.decode_all.Goals as goal

pub loop-piece-preserved : goal.loop-piece-preserved
loop-piece-preserved g c =
    let here = c.loop-piece in
    let more : string_bytes c.push_str.new.self ≡ string_bytes here.text ++ string_bytes c.in_ok-more.more = c.in_ok-push_str.ensures.bytes ∙ ap (λ t. string_bytes here.text ++ t) c.as_str.ensures.value in
    let both = all-more (start c.args.encoding) c.args.pieces.now here.piece-index _ (string_bytes here.text) (string_bytes c.in_ok-more.more)
    (string_bytes c.push_str.new.self) here.decoder c.decode.new.self c.loop-piece-test.true here.invariant.text here.invariant.leaves
    c.in_ok-more.ensures.text c.in_ok-more.ensures.leaves more in
    record { text = both.0; leaves = both.1 }

pub returns : goal.returns
returns g c =
    let here = c.loop-piece in
    all-ended c.args.encoding c.args.pieces.now here.piece-index (string_bytes here.text) c.finish.result.now (string_bytes c.push_str-2.new.self)
    here.decoder c.loop-piece-test.false here.invariant.text here.invariant.leaves c.finish.ensures c.in_ok-push_str-2.ensures.bytes
