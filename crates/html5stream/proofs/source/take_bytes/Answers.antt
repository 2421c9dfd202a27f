use Rattle.std.proofs.Common.{string_bytes}
use Rattle.std.proofs.lemmas.Result.{err_from_is_err_and}
use Rattle.std.proofs.lemmas.Str.{IsUtf8-string_bytes}
use Rattle.html5stream.proofs.Streaming.{StopsBytes-decoder, StopsBytes-fed}
use Rattle.html5stream.proofs.source.take_bytes.Goals as goal

pub returns-in_err-text-clause-stops : goal.returns-in_err-text-clause-stops
returns-in_err-text-clause-stops g c =
    let p = err_from_is_err_and c.from_residual.result c.from_residual.ensures.1 in
    let said = c.in_err-text.ensures in
    rw p.1
    (StopsBytes-decoder g.S.TokenSink.means
    _ p.0 c.args.decoder.now c.args.tokenizer.now c.args.bytes.now p.2.0 p.2.2 said.fault said.refused.0 said.refused.1)

pub returns-in_err-feed_text-clause-stops : goal.returns-in_err-feed_text-clause-stops
returns-in_err-feed_text-clause-stops g c =
    let p = err_from_is_err_and c.from_residual-in_err-feed_text.result c.from_residual-in_err-feed_text.ensures.1 in
    let said = c.in_err-feed_text.ensures in
    rw (p.1, p.2)
    (StopsBytes-fed g.S.TokenSink.means
    _ c.args.decoder.now c.args.tokenizer.now c.args.bytes.now (string_bytes c.in_ok-text.text) _ _ c.in_ok-text.ensures.text
    (IsUtf8-string_bytes c.in_ok-text.text) said.stops c.in_ok-text.ensures.cut said.text_error)

pub returns-clause-takes : goal.returns-clause-takes
returns-clause-takes g c =
    let decoded = c.in_ok-text.ensures in
    let fed = c.in_ok-feed_text.ensures in
    record {
      text = string_bytes c.in_ok-text.text;
      parts = decoded.text;
      utf8 = IsUtf8-string_bytes c.in_ok-text.text;
      cut = decoded.cut;
      taken = decoded.taken;
      reads = fed.reads;
      rules = fed.rules;
      going_on = fed.going_on;
      not_failed = fed.not_failed;
    }
