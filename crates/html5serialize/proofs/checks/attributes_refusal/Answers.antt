use Rattle.std.proofs.Common.{◌+◌, ◌-◌, length, sym, ap, ◌∙◌, drop, take, map}
use Rattle.std.specs.Prelude.{option_map}
use Rattle.std.specs.Option.{option_or}
use Rattle.html5serialize.specs.Refusals.{attribute_refusal, attributes_refusal, repeat_from}
use Rattle.html5serialize.specs.declared.error.SerializeError.TheVariants.{Repeated}
use Rattle.html5serialize.proofs.Repeats.{refusal-next, refusal-none}
use Rattle.markup5ever.specs.Names.{attribute_of}
use Rattle.html5serialize.proofs.checks.attributes_refusal.Goals as goal

pub returns-in-Some : goal.returns-in-Some
returns-in-Some g c =
    let i = c.loop-index.index in
    let all = c.args.attributes.now in
    let more = attributes_refusal (i + 1) (map attribute_of (drop (i + 1) all)) in
    let later = map attribute_of (take (length all - (i + 1)) (drop (i + 1) all)) in
    sym (c.loop-index.invariant
    ∙ refusal-next i all _ c.loop-index-test.true
    ∙ ap (λ a. option_or (option_or (attribute_refusal i (attribute_of a)) (option_map Repeated (repeat_from (attribute_of a) (i + 1) later))) more) (sym c.index-attributes-index.is)
    ∙ ap (λ r. option_or r more) (sym c.in-Some.ensures))

pub loop-index-preserved : goal.loop-index-preserved
loop-index-preserved g c =
    let i = c.loop-index.index in
    let all = c.args.attributes.now in
    let more = attributes_refusal (i + 1) (map attribute_of (drop (i + 1) all)) in
    let later = map attribute_of (take (length all - (i + 1)) (drop (i + 1) all)) in
    c.loop-index.invariant
    ∙ refusal-next i all _ c.loop-index-test.true
    ∙ ap (λ a. option_or (option_or (attribute_refusal i (attribute_of a)) (option_map Repeated (repeat_from (attribute_of a) (i + 1) later))) more) (sym c.index-attributes-index.is)
    ∙ ap (λ r. option_or r more) (sym c.in-None.ensures)

pub returns : goal.returns
returns g c = sym (c.loop-index.invariant ∙ refusal-none c.loop-index.index c.args.attributes.now c.loop-index-test.false)
