use Rattle.std.proofs.Common.{◌≡◌, ◌≤◌, ◌+◌, ◌*◌, ◌%◌, ◌^◌, take, ap, ◌∙◌, arith}
use Rattle.std.specs.Prelude.{min}
use Rattle.std.specs.Str.Parse.{digits_value}
use Rattle.std.proofs.Math.Nat.{mul-le-mul}
use Rattle.std.proofs.lemmas.List.{take_all}
use Rattle.html5reading.specs.Reference.{number_value, after_x}
use Rattle.html5partial.proofs.Numbers.{value-more, low_bits-more, digit-at}
use Rattle.html5partial.proofs.number.number_value.Goals as goal

pub overflow_mul-value : goal.overflow_mul-value
overflow_mul-value c =
    let value : c.loop-byte.value ≤ 0x11_0000 = omega arith in
    let most : c.loop-byte.value * c.base_of-base.result ≤ 0x11_0000 * 16 = mul-le-mul value c.base_of-base.ensures.bounds.1 in
    omega arith

pub overflow_add-value : goal.overflow_add-value
overflow_add-value c =
    let value : c.loop-byte.value ≤ 0x11_0000 = omega arith in
    let most : c.loop-byte.value * c.base_of-base.result ≤ 0x11_0000 * 16 = mul-le-mul value c.base_of-base.ensures.bounds.1 in
    let read = digit-at c.args.number.now c.as_bytes-digits.result.now c.loop-byte.byte-index c.from.result c.to_digit.result c.unwrap_or-digit.result c.base_of-base.result c.requires
    (c.as_bytes-digits.ensures.value ∙ c.digits_of.ensures) c.loop-byte-test.true c.from.ensures c.base_of-base.ensures.base c.to_digit.ensures.value c.unwrap_or-digit.ensures in
    omega arith

pub loop-byte-preserved : goal.loop-byte-preserved
loop-byte-preserved c =
    let base = c.base_of-base.result in
    let digits = c.as_bytes-digits.result.now in
    let i = c.loop-byte.byte-index in
    let digit = c.unwrap_or-digit.result in
    let read = digit-at c.args.number.now digits i c.from.result c.to_digit.result digit base c.requires (c.as_bytes-digits.ensures.value ∙ c.digits_of.ensures) c.loop-byte-test.true c.from.ensures
    c.base_of-base.ensures.base c.to_digit.ensures.value c.unwrap_or-digit.ensures in
    record {
      value = c.min-value.ensures ∙ ap (λ v. min (v * base + digit) 0x11_0000) c.loop-byte.invariant.value ∙ value-more base digits i digit 0x11_0000 (omega arith) c.loop-byte-test.true read.0;
      low_bits = ap (λ v. (v * base % 2 ^ 32 + digit) % 2 ^ 32) c.loop-byte.invariant.low_bits ∙ low_bits-more base digits i digit (2 ^ 32) c.loop-byte-test.true read.0;
    }

pub returns : goal.returns
unfolding Rattle.html5reading.specs.Reference.number_value
returns c =
    let digits = c.as_bytes-digits.result.now in
    let whole : digits_value c.base_of-base.result (take c.loop-byte.byte-index digits) ≡ number_value c.args.number.now =
    ap (digits_value c.base_of-base.result) (take_all c.loop-byte.byte-index digits c.loop-byte-test.false ∙ c.as_bytes-digits.ensures.value ∙ c.digits_of.ensures)
    ∙ ap (λ b. digits_value b (after_x c.args.number.now)) c.base_of-base.ensures.base in
    record {
      value = c.loop-byte.invariant.value ∙ ap (λ v. min v 0x11_0000) whole;
      low_bits = c.loop-byte.invariant.low_bits ∙ ap (λ v. v % 2 ^ 32) whole;
    }
