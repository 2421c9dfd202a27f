use Rattle.std.proofs.Common.{◌+◌, Some, sym, ap, ◌∙◌, drop, map}
use Rattle.std.specs.Prelude.{if◌then◌else◌}
use Rattle.html5serialize.specs.Refusals.{repeat_from}
use Rattle.html5serialize.specs.Tags.{differs_from}
use Rattle.html5serialize.proofs.Repeats.{repeat-next, repeat-none}
use Rattle.markup5ever.specs.Names.{attribute_of}
use Rattle.html5serialize.proofs.checks.repeat_from.Goals as goal

pub returns-then-not-are_different : goal.returns-then-not-are_different
returns-then-not-are_different g c =
    let a = attribute_of c.args.attribute.now in
    let k = c.loop-k.k in
    let next = repeat_from a (c.args.index + (k + 1)) (map attribute_of (drop (k + 1) c.args.later.now)) in
    sym (c.loop-k.invariant
    ∙ repeat-next a c.args.index k c.args.later.now _ c.loop-k-test.true
    ∙ ap (λ other. if differs_from a (attribute_of other) then next else Some (c.args.index + k)) (sym c.index-later-k.is)
    ∙ ap (λ b. if b then next else Some (c.args.index + k)) (sym c.are_different.ensures ∙ c.if-not-are_different.true))

pub loop-k-preserved : goal.loop-k-preserved
loop-k-preserved g c =
    let a = attribute_of c.args.attribute.now in
    let k = c.loop-k.k in
    let next = repeat_from a (c.args.index + (k + 1)) (map attribute_of (drop (k + 1) c.args.later.now)) in
    c.loop-k.invariant
    ∙ repeat-next a c.args.index k c.args.later.now _ c.loop-k-test.true
    ∙ ap (λ other. if differs_from a (attribute_of other) then next else Some (c.args.index + k)) (sym c.index-later-k.is)
    ∙ ap (λ b. if b then next else Some (c.args.index + k)) (sym c.are_different.ensures ∙ c.if-not-are_different.false)

pub returns : goal.returns
returns g c = sym (c.loop-k.invariant ∙ repeat-none (attribute_of c.args.attribute.now) c.args.index c.loop-k.k c.args.later.now c.loop-k-test.false)
