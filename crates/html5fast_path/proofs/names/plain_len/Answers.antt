use Rattle.std.proofs.Common.{◌≡◌, arith, length, subst, take}
use Rattle.std.specs.List.{AllPass}
use Rattle.html5partial.specs.Runs.{stays_in_names}
use Rattle.markup5ever.specs.SmallCharSet.{BeginsOutside}
use Rattle.html5fast_path.proofs.AsciiFronts.{IsAsciiFront, front-start, front-more}
use Rattle.html5fast_path.proofs.PlainFronts.{IsPlain, plain-outside, plain-stays}
use Rattle.html5fast_path.proofs.names.plain_len.Goals as goal

pub loop-at-init : goal.loop-at-init
loop-at-init c = front-start (IsPlain c.args.ends) c.as_bytes-bytes.result.now c.as_bytes-bytes.ensures.utf8

pub loop-at-preserved : goal.loop-at-preserved
loop-at-preserved c =
    let on = c.goes_on.ensures in
    front-more (IsPlain c.args.ends) c.as_bytes-bytes.result.now c.loop-at.at c.as_bytes-bytes.ensures.utf8 c.loop-at-test.true c.loop-at.invariant
    (on.ascii c.if-not-goes_on.false) (on.stays c.if-not-goes_on.false, on.outside c.if-not-goes_on.false)

pub returns-then-not-goes_on-clause-outside : goal.returns-then-not-goes_on-clause-outside
returns-then-not-goes_on-clause-outside c =
    rw c.as_bytes-bytes.ensures.value at (plain-outside c.args.ends c.as_bytes-bytes.result.now c.loop-at.at c.as_bytes-bytes.ensures.utf8 c.loop-at.invariant)

pub returns-then-not-goes_on-clause-stays : goal.returns-then-not-goes_on-clause-stays
returns-then-not-goes_on-clause-stays c = rw c.as_bytes-bytes.ensures.value at (plain-stays c.args.ends c.as_bytes-bytes.result.now c.loop-at.at c.loop-at.invariant)

whole : (c : goal.After-loop-at) → IsAsciiFront (IsPlain c.args.ends) c.as_bytes-bytes.result.now (length c.as_bytes-bytes.result.now)
whole c =
    let bytes = c.as_bytes-bytes.result.now in
    let all : c.loop-at.at ≡ length bytes = omega (arith, c.loop-at-test.false, c.loop-at.auto.at-end) in
    subst (IsAsciiFront (IsPlain c.args.ends) bytes) all c.loop-at.invariant

pub returns-clause-outside : goal.returns-clause-outside
returns-clause-outside c =
    let bytes = c.as_bytes-bytes.result.now in
    subst (λ text. BeginsOutside c.args.ends text (length bytes)) c.as_bytes-bytes.ensures.value
    (plain-outside c.args.ends bytes (length bytes) c.as_bytes-bytes.ensures.utf8 (whole c))

pub returns-clause-stays : goal.returns-clause-stays
returns-clause-stays c =
    let bytes = c.as_bytes-bytes.result.now in
    subst (λ text. AllPass stays_in_names (take (length bytes) text)) c.as_bytes-bytes.ensures.value
    (plain-stays c.args.ends bytes (length bytes) (whole c))
