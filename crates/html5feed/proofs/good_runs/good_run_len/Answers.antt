use Rattle.std.proofs.Common.{◌≡◌, false, arith, length, subst, take}
use Rattle.std.specs.Prelude.{All}
use Rattle.std.specs.Str.{chars}
use Rattle.html5reading.specs.Characters.{is_bad_character}
use Rattle.markup5ever.specs.SmallCharSet.{BeginsOutside}
use Rattle.html5fast_path.proofs.AsciiFronts.{IsAsciiFront, front-start, front-more}
use Rattle.html5feed.proofs.GoodFronts.{IsGood, good-outside, good-no_bad}
use Rattle.html5feed.proofs.good_runs.good_run_len.Goals as goal

pub loop-at-init : goal.loop-at-init
loop-at-init c = front-start (IsGood c.args.ends) c.as_bytes-bytes.result.now c.as_bytes-bytes.ensures.utf8

pub loop-at-preserved : goal.loop-at-preserved
loop-at-preserved c =
    let on = c.goes_on.ensures in
    front-more (IsGood c.args.ends) c.as_bytes-bytes.result.now c.loop-at.at c.as_bytes-bytes.ensures.utf8 c.loop-at-test.true c.loop-at.invariant
    (on.ascii c.if-not-goes_on.false) (on.good c.if-not-goes_on.false, on.outside c.if-not-goes_on.false)

pub returns-then-not-goes_on-clause-outside : goal.returns-then-not-goes_on-clause-outside
returns-then-not-goes_on-clause-outside c =
    rw c.as_bytes-bytes.ensures.value at (good-outside c.args.ends c.as_bytes-bytes.result.now c.loop-at.at c.as_bytes-bytes.ensures.utf8 c.loop-at.invariant)

pub returns-then-not-goes_on-clause-good : goal.returns-then-not-goes_on-clause-good
returns-then-not-goes_on-clause-good c = rw c.as_bytes-bytes.ensures.value at (good-no_bad c.args.ends c.as_bytes-bytes.result.now c.loop-at.at c.loop-at.invariant)

whole : (c : goal.After-loop-at) → IsAsciiFront (IsGood c.args.ends) c.as_bytes-bytes.result.now (length c.as_bytes-bytes.result.now)
whole c =
    let bytes = c.as_bytes-bytes.result.now in
    let all : c.loop-at.at ≡ length bytes = omega (arith, c.loop-at-test.false, c.loop-at.auto.at-end) in
    subst (IsAsciiFront (IsGood c.args.ends) bytes) all c.loop-at.invariant

pub returns-clause-outside : goal.returns-clause-outside
returns-clause-outside c =
    let bytes = c.as_bytes-bytes.result.now in
    subst (λ text. BeginsOutside c.args.ends text (length bytes)) c.as_bytes-bytes.ensures.value
    (good-outside c.args.ends bytes (length bytes) c.as_bytes-bytes.ensures.utf8 (whole c))

pub returns-clause-good : goal.returns-clause-good
returns-clause-good c =
    let bytes = c.as_bytes-bytes.result.now in
    subst (λ text. All (λ c. is_bad_character c ≡ false) (chars (take (length bytes) text))) c.as_bytes-bytes.ensures.value
    (good-no_bad c.args.ends bytes (length bytes) (whole c))
