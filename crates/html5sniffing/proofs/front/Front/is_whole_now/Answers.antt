use Rattle.std.proofs.Common.{drop, ap, subst, ◌∙◌}
use Rattle.std.specs.List.{list_all}
use Rattle.html5encodings.specs.Iso2022Jp.{is_plain}
use Rattle.html5sniffing.specs.Fronts.{FrontOf}
use Rattle.html5sniffing.specs.PageEncoding.{IsWhole}
use Rattle.html5sniffing.proofs.FrontLemmas.{long-whole}
use Rattle.html5sniffing.proofs.front.Front.is_whole_now.Goals as goal

pub returns-then-self-clause-whole : goal.returns-then-self-clause-whole
returns-then-self-clause-whole g c = λ past.
    subst (λ (w : FrontOf). IsWhole c.args.references.now c.args.said c.args.fallback w.bytes) c.self.view_is
    (long-whole c.args.references.now c.args.said c.args.fallback c.self.inside.bytes.items c.args.before c.len.result c.are_plain-goes_on.result c.is_past-past.result
    (c.self.invariant c.if-self.true) (c.len.ensures ∙ c.self.inside.bytes.ok.0)
    (c.are_plain-goes_on.ensures ∙ ap (list_all is_plain) c.rest_of.ensures ∙ ap (λ l. list_all is_plain (drop c.args.before l)) c.deref.ensures.value)
    c.is_past-past.ensures past)
