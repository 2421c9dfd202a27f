use Rattle.std.proofs.Common.{◌∙◌}
use Rattle.html5amend.proofs.Pushing.{full-within, pushed-within}
use Rattle.html5amend.proofs.waiting.Waiting.push_within.Goals as goal

pub returns-then-len-self : goal.returns-then-len-self
returns-then-len-self g c =
    pushed-within c.args.element c.args.self.now c.self.inside.elements.items c.self.inside.places c.len.result c.self.view_is (c.len.ensures ∙ c.self.inside.elements.ok.0)
    c.push_front_reserved.new.self.items c.if-len-self.true c.push_front_reserved.ensures.items

pub returns-else-len-self : goal.returns-else-len-self
returns-else-len-self g c =
    full-within c.args.element c.args.self.now c.self.inside.elements.items c.self.inside.places c.len.result c.self.view_is (c.len.ensures ∙ c.self.inside.elements.ok.0)
    c.if-len-self.false
