use Rattle.std.proofs.Common.{◌≡◌, ◌+◌, ◌++◌, false, drop, get_or, string_bytes, sym, ap, subst, ◌∙◌, arith}
use Rattle.std.specs.Prelude.{encode_utf8_all}
use Rattle.std.proofs.lemmas.List.{drop_more}
use Rattle.html5encodings.specs.Decoding.{IsState, given_before_error, handled, len_before_error, returns_error, state_before_error}
use Rattle.html5encodings.proofs.BeforeErrors.{given-sound, len-sound, state-sound}
use Rattle.html5encodings.proofs.state.append_before_error.Goals as goal

pub loop-byte-preserved : goal.loop-byte-preserved
loop-byte-preserved g c =
    let bytes = c.args.bytes.now in
    let i = c.loop-byte.byte-index in
    let now = c.loop-byte.before.left in
    let byte = get_or bytes i 0 in
    let rest = drop (i + 1) bytes in
    let old = string_bytes c.loop-byte.text in
    let new = string_bytes c.append_byte.new.text in
    let step = drop_more bytes i 0 c.loop-byte-test.true in
    let sound : returns_error now byte ≡ false = sym c.returns_error.ensures ∙ c.if-returns_error.false in
    let left : c.longer-before.result.left ≡ (handled now byte).1 = c.longer-before.ensures.left ∙ c.in_ok-append_byte.ensures.leaves in
    let len = len-sound now byte rest sound in
    let whole_len = ap (len_before_error now) step in
    record {
      text = ap (λ s. new ++ encode_utf8_all (given_before_error s rest)) left
          ∙ given-sound now byte rest old new sound c.in_ok-append_byte.ensures.text
          ∙ ap (λ l. old ++ encode_utf8_all (given_before_error now l)) (sym step)
          ∙ c.loop-byte.invariant.text;
      leaves = ap (λ s. state_before_error s rest) left ∙ state-sound now byte rest sound ∙ ap (state_before_error now) (sym step) ∙ c.loop-byte.invariant.leaves;
      len = ap (λ s. c.longer-before.result.len + len_before_error s rest) left ∙ omega (arith, c.longer-before.ensures.len, len, whole_len, c.loop-byte.invariant.len);
      at = c.longer-before.ensures.len ∙ ap (λ n. n + 1) c.loop-byte.invariant.at;
      whole = c.longer-before.ensures.whole c.loop-byte.invariant.whole;
      valid = subst IsState (sym c.longer-before.ensures.left) c.in_ok-append_byte.ensures.valid;
    }
