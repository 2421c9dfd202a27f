use Rattle.std.proofs.Common.{rules, tests, ◌∙◌}
use Rattle.std.proofs.lemmas.Iterator.{YieldsList-from_slice}
use Rattle.std.proofs.lemmas.Iterator.Consumers.{count_from_yields_List, YieldsList-from_filter}
use Rattle.std.proofs.lemmas.List.Sums.{length-filter}
use Rattle.html5ever_interface.proofs.AttributeCounts.{same}
use Rattle.html5ever_interface.proofs.interface.token.count_of.Goals as goal

pub returns : goal.returns
returns g c =
    count_from_yields_List c.filter.result _ c.count.ensures.ran
    (YieldsList-from_filter _ (λ other. same other c.args.attribute.now) (YieldsList-from_slice c.args.attrs.now cc)
    c.filter.ensures.closure (λ x b q k. search (rules, tests) fits 20000))
    ∙ length-filter (λ other. same other c.args.attribute.now) c.args.attrs.now
