use Rattle.std.proofs.Common.{string_bytes, sym, ◌∙◌}
use Rattle.html5nested.proofs.Spaces.{leading-end, leading-next, leading-none}
use Rattle.html5nested.proofs.white_space.leading_space.Goals as goal

pub returns-then-not-is_space : goal.returns-then-not-is_space
returns-then-not-is_space g c =
    leading-end (string_bytes c.loop-byte.space) c.loop-byte.left.now c.in-Some.rest.now c.args.text.now c.in-Some.byte.now
    (sym c.is_space.ensures ∙ c.if-not-is_space.true) c.in-Some.ensures.cases.0 c.loop-byte.invariant

pub loop-byte-preserved : goal.loop-byte-preserved
loop-byte-preserved g c =
    leading-next (string_bytes c.loop-byte.space) (string_bytes c.push.new.self) c.loop-byte.left.now c.in-Some.rest.now c.args.text.now c.in-Some.byte.now c.from.result
    (sym c.is_space.ensures ∙ c.if-not-is_space.false) c.from.ensures c.in_ok-push.ensures.bytes c.in-Some.ensures.cases.0 c.loop-byte.invariant

pub returns : goal.returns
returns g c = leading-none (string_bytes c.loop-byte.space) c.loop-byte.left.now c.args.text.now c.in_default.ensures.cases c.loop-byte.invariant
